-- What the laws about expansions speak of: written nonterminals below the new ones, where a line's
-- new ones begin, rules alike.
use mathlib.Core.Path.{◌≡◌}
use mathlib.Core.Logic.{◌⊎◌}
use mathlib.Core.List.{[], ◌∷◌, Memᴰ}
use Prim.Native.Nat.{ℕ, ◌+◌, ◌≤◌, ◌<◌}
use Rattle.grammar.specs.declared.Rule.{Rule}
use Rattle.grammar.specs.declared.Clause.{Clause}
use Rattle.grammar.specs.declared.Clause.TheVariants.{Empty, Atom, Unary, Binary}
use Rattle.grammar.specs.Trees.{Rules}
use Rattle.clauses.specs.Clauses as C
use Rattle.clauses.specs.Clauses.{Sort, alternatives, Expr, nonterminal, a_part, terminal}
use Rattle.clauses.specs.Clauses.{group, mark, pair, optional, repeated, only, or, Clauses}
use Rattle.clauses.specs.Clauses.{a_line}
use Rattle.clauses.specs.Readings.{ClausePlace, here, later}
use Rattle.clauses.specs.Expansion.{size}
use Rattle.grammar.specs.Distinct.{Alike}

-- every nonterminal written in a part, in a sheet, is below N
abbrev pub Under : {s : Sort} → ℕ → Expr s → Type 0
Under N (nonterminal A) = A < N
Under N (a_part e) = Under N e
Under N (terminal a) = Unit {0}
Under N (group e) = Under N e
Under N (mark m e) = Under N e
Under N (pair m e f) = Under N e × Under N f
Under N (optional e) = Under N e
Under N (repeated q m e) = Under N e
Under N (only e) = Under N e
Under N (or e f) = Under N e × Under N f

abbrev pub UnderAll : ℕ → Clauses → Type 0
UnderAll N C.no_line = Unit {0}
UnderAll N (a_line L e c) = (L < N) × (Under N e × UnderAll N c)

-- every terminal written in a part, in a sheet, is below 64
abbrev pub Terms : {s : Sort} → Expr s → Type 0
Terms (nonterminal A) = Unit {0}
Terms (a_part e) = Terms e
Terms (terminal a) = a < 64
Terms (group e) = Terms e
Terms (mark m e) = Terms e
Terms (pair m e f) = Terms e × Terms f
Terms (optional e) = Terms e
Terms (repeated q m e) = Terms e
Terms (only e) = Terms e
Terms (or e f) = Terms e × Terms f

abbrev pub TermsAll : Clauses → Type 0
TermsAll C.no_line = Unit {0}
TermsAll (a_line L e c) = Terms e × TermsAll c

-- the first new nonterminal of the line at a place, where the sheet's first is n
abbrev pub start : {c : Clauses} → ClausePlace c → ℕ → ℕ
start here n = n
start (later {e = e} p) n = start p (n + size e)

-- k is the number of one of the alternatives
abbrev pub Among : Expr alternatives → ℕ → ℕ → Type 0
Among (only e) n k = k ≡ n
Among (or e f) n k = (k ≡ n) ⊎ Among f (n + size e) k

-- the same left, and alike either way round (refusal 5)
pub record Clash (r s : Rule) : Type 0 where
  pub left : r.left ≡ s.left
  pub alike : Alike r.clause s.clause ⊎ Alike s.clause r.clause

-- no rule has an earlier one's left, kind, first and second
abbrev pub AllApart : Rules → Type 0
AllApart [] = Unit {0}
AllApart (r ∷ g) = ((s : Rule) → Memᴰ s g → Clash r s → ⊥) × AllApart g

-- every nonterminal of a clause is below K, every terminal below 64, and no range of terminals
-- reverses
abbrev pub Below : ℕ → Clause → Type 0
Below K Empty = Unit {0}
Below K (Atom a b) = (a < 64) × (b < 64) × (a ≤ b)
Below K (Unary B m) = B < K
Below K (Binary B C m) = (B < K) × (C < K)
