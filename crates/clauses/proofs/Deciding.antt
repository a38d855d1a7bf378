-- Whether lexemes say an expression is decided by the flat test; and the largest nonterminal
-- written.
use mathlib.Core.Path.{◌≡◌, refl, sym, ◌∙◌, ap}
use mathlib.Core.Bool.{Bool, true, false}
use mathlib.Core.List.{List, [], ◌∷◌, ◌++◌}
use Prim.Native.Nat.{ℕ, ◌+◌, ◌≤◌, max}
use native.Mathlib.Omega.{arith}
use Rattle.sets.proofs.Basics.{clash}
use Rattle.clauses.specs.Expansion.{past_expr}
use Rattle.clauses.specs.Text.{maybe, repeats, marks, Lex, closing, bar, suffix, join, Phrase}
use Rattle.clauses.specs.Text.{an_atom, an_item, a_row, one, many, WrittenAs}
use Rattle.clauses.specs.Text.{nonterminal_text, terminal_text, group_text, bare_text}
use Rattle.clauses.specs.Text.{optional_text, repeated_text, marked_text, last_text}
use Rattle.clauses.specs.Text.{then_text, single_text, several_text, only_text, or_text}
use Rattle.clauses.specs.Text.{IsExpression}
use Rattle.clauses.specs.Flat.{due, run, past_lex, past_lexes}
use Rattle.clauses.proofs.Accepts.{accepted, accepts}
use Rattle.clauses.proofs.Sorted.{max_bounds, max_least}

unfoldable pub says? : (l : List Lex) → Dec (IsExpression l)
says? l = go (run l due 0) refl
  where
    go : (b : Bool) → run l due 0 ≡ b → Dec (IsExpression l)
    go true e = let a = accepted l e in yes (record { expr = a.0; written = a.1 })
    go false e = no (λ s. let z = sym (accepts s.expr l s.written) ∙ e in clash cc)

equal : (a b : ℕ) → a ≤ b → b ≤ a → a ≡ b
equal a b p q = omega arith

-- the larger of two is known by what is above both
pub max_is : (a b c : ℕ) → a ≤ c → b ≤ c → ((k : ℕ) → a ≤ k → b ≤ k → c ≤ k) → max a b ≡ c
max_is a b c p q f = let z = max_bounds a b in
    equal (max a b) c (max_least a b c p q) (f (max a b) z.0 z.1)

pub max_assoc : (a b c : ℕ) → max a (max b c) ≡ max (max a b) c
max_assoc a b c =
    let x = max_bounds a b in let y = max_bounds (max a b) c in let u = max_bounds b c in
    max_is a (max b c) (max (max a b) c) (omega arith)
    (max_least b c (max (max a b) c) (omega arith) (omega arith))
    (λ k p q. max_least (max a b) c k (max_least a b k p (omega arith)) (omega arith))

pub max_zero : (a : ℕ) → max a 0 ≡ a
max_zero a = max_is a 0 a (omega arith) (omega arith) (λ k p q. p)

zero_max : (a : ℕ) → max 0 a ≡ a
zero_max a = max_is 0 a a (omega arith) (omega arith) (λ k p q. q)

past_append : (l k : List Lex) → past_lexes (l ++ k) ≡ max (past_lexes l) (past_lexes k)
past_append [] k = sym (zero_max (past_lexes k))
past_append (x ∷ l) k =
    ap (max (past_lex x)) (past_append l k) ∙ max_assoc (past_lex x) (past_lexes l) (past_lexes k)

abbrev past_part : Phrase → ℕ
past_part (an_atom e) = past_expr e
past_part (an_item e) = past_expr e
past_part (a_row e) = past_expr e
past_part (one e) = past_expr e
past_part (many e) = past_expr e

plain : (l k : List Lex) (a : ℕ) → past_lexes k ≡ 0 → past_lexes l ≡ a → past_lexes (l ++ k) ≡ a
plain l k a e f = past_append l k ∙ ap (max (past_lexes l)) e ∙ max_zero (past_lexes l) ∙ f

both : (l k : List Lex) (x : Lex) (a b : ℕ) → past_lex x ≡ 0 → past_lexes l ≡ a → past_lexes k ≡ b
    → past_lexes (l ++ (x ∷ k)) ≡ max a b
both l k x a b e f g = past_append l (x ∷ k)
    ∙ (λ i. max (f i) ((ap (λ (y : ℕ). max y (past_lexes k)) e ∙ zero_max (past_lexes k) ∙ g) i))

pub past_written : {p : Phrase} {l : List Lex} → WrittenAs p l → past_lexes l ≡ past_part p
past_written (nonterminal_text {a = a}) = max_zero (a + 1)
past_written (terminal_text) = refl
past_written (group_text {e = e} {l = l} w) =
    zero_max _ ∙ plain l (closing ∷ []) (past_expr e) refl (past_written w)
past_written (bare_text w) = past_written w
past_written (optional_text {e = e} {l = l} w) =
    plain l (suffix maybe ∷ []) (past_expr e) refl (past_written w)
past_written (repeated_text {q = q} {m = m} {e = e} {l = l} w) =
    plain l (suffix (repeats q m) ∷ []) (past_expr e) refl (past_written w)
past_written (marked_text {m = m} {e = e} {l = l} w) =
    plain l (suffix (marks m) ∷ []) (past_expr e) refl (past_written w)
past_written (last_text w) = past_written w
past_written (then_text {m = m} {e = e} {f = f} {k = k} {l = l} w v) =
    both k l (join m) (past_expr e) (past_expr f) refl (past_written w) (past_written v)
past_written (single_text w) = past_written w
past_written (several_text {m = m} {e = e} {f = f} {k = k} {l = l} w v) =
    both k l (join m) (past_expr e) (past_expr f) refl (past_written w) (past_written v)
past_written (only_text w) = past_written w
past_written (or_text {e = e} {f = f} {k = k} {l = l} w v) =
    both k l bar (past_expr e) (past_expr f) refl (past_written w) (past_written v)
