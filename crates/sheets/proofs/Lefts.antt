-- A rule with another left has not the key.
use mathlib.Core.Path.{◌≡◌, refl, sym, ap, ◌∙◌}
use mathlib.Core.Bool.{Bool, false, cond, ◌&&◌}
use mathlib.Core.Logic.{⊎_elim}
use Prim.Native.Nat.{ℕ}
use lib.Dec.{eqb}
use Rattle.sets.proofs.Basics.{true_or_false}
use Rattle.sets.proofs.Says.{says_eqb}
use Rattle.grammar.specs.declared.Rule.{Rule}
use Rattle.grammar.specs.declared.Clause.{Clause}
use Rattle.lines.specs.declared.Key.{Key}
use Rattle.lines.specs.Keys.{key_with_of, key_of, kind_number, meets, same_operands}
use Rattle.sheets.specs.RuleSheets.{has_key}

unequal : (m n : ℕ) → (m ≡ n → ⊥) → eqb m n ≡ false
unequal m n h =
    ⊎_elim (λ t. absurd (h ((says_eqb m n).is t))) (λ f. f) (true_or_false (eqb m n))

left_of : (l : ℕ) (c : Clause) → (key_with_of l c).left ≡ l
left_of l Clause.Empty = refl
left_of l (Clause.Atom a b) = refl
left_of l (Clause.Unary a m) = refl
left_of l (Clause.Binary a b m) = refl

pub other_left : (k : Key) (r : Rule) → (r.left ≡ k.left → ⊥) → has_key k r ≡ false
other_left k r h =
    let e = unequal (key_of r).left k.left (λ d. h (sym (left_of r.left r.clause) ∙ d)) in
    ap (λ (b : Bool). b && (eqb (kind_number (key_of r).kind) (kind_number k.kind)
    && cond (eqb (kind_number (key_of r).kind) 1) (meets (key_of r) k)
    (same_operands (key_of r) k))) e
