-- For inner functions: the rules of an expression in the order in which a reader meets them, each
-- after what it is made of.
use Rattle.std.specs.Prelude.{[], ◌∷◌, ◌++◌, ℕ, ◌+◌}
use Rattle.grammar.specs.declared.UnaryMark.TheVariants as UnaryMark
use Rattle.grammar.specs.Trees.{Rules}
use Rattle.clauses.specs.Clauses.{Sort, Expr, nonterminal, a_part, terminal, group, mark}
use Rattle.clauses.specs.Clauses.{pair, optional, repeated, only, or}
use Rattle.clauses.specs.Expansion.{E, A, U, B, size, name, repeat_begins}

-- the rules in the order in which they are met; alternatives belong to L
abbrev pub emit : {s : Sort} → Expr s → ℕ → ℕ → Rules
emit (nonterminal a) L n = []
emit (a_part e) L n = emit e L n
emit (terminal a) L n = A n a ∷ []
emit (group e) L n = emit e n (n + 1)
emit (mark m e) L n = emit e 0 (n + 1) ++ (U n (name e (n + 1)) m ∷ [])
emit (pair m e f) L n = emit e 0 (n + 1)
    ++ (emit f 0 (n + 1 + size e) ++ (B n (name e (n + 1)) (name f (n + 1 + size e)) m ∷ []))
emit (optional e) L n = emit e 0 (n + 1) ++ (U n (name e (n + 1)) UnaryMark.None ∷ E n ∷ [])
emit (repeated q m e) L n = emit e 0 (n + 2)
    ++ (repeat_begins q n (name e (n + 2)) ∷ U n (n + 1) UnaryMark.None
    ∷ B (n + 1) n (name e (n + 2)) m ∷ [])
emit (only e) L n = emit e L n ++ (U L n UnaryMark.None ∷ [])
emit (or e f) L n = emit e L n ++ (U L n UnaryMark.None ∷ emit f L (n + size e))
