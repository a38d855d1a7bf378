-- Laws of steps and of the children's entries.
use mathlib.Core.Path.{◌≡◌, refl, ap, ◌∙◌}
use mathlib.Core.Bool.{Bool}
use mathlib.Core.List.{List, [], ◌∷◌, ◌++◌}
use mathlib.Core.Option.{some}
use Prim.Native.Nat.{ℕ, zero, suc, ◌+◌, ◌*◌, ◌-◌, ◌≤◌}
use native.Mathlib.Omega.{arith}
use lib.ListN.{length, get_or, get_elem?, take, drop}
use Rattle.sets.proofs.Basics.{clash}
use Rattle.grammar.specs.declared.Rule.{Rule}
use Rattle.grammar.specs.Rows.{start_of}
use Rattle.rows.specs.Bytes.{splice}
use Rattle.rows.specs.declared.Kind.{Kind}
use Rattle.rows.specs.Steps.{step_of_clause, kids_of, Branches, Branched}
use Rattle.rows.proofs.BytesLaws.{length_splice, take_splice_low, drop_splice}

pub start_some : (i n : ℕ) → (n ≡ 0 → ⊥) → start_of i n ≡ i
start_some i zero h = absurd (h refl)
start_some i (suc n) h = refl

pub kids_le : (k : Kind) → kids_of k ≤ 2
kids_le Kind.Empty = omega arith
kids_le Kind.Atom = omega arith
kids_le (Kind.Unary B) = omega arith
kids_le (Kind.Binary B C j) = omega arith
kids_le Kind.Closed = omega arith

-- an element that is there is what `get_or` gives, whatever stands for the missing
pub get_d_of : (l : List Rule) (p : ℕ) (x d : Rule) → get_elem? l p ≡ some x → get_or l p d ≡ x
get_d_of [] p x d e = absurd (clash cc)
get_d_of (y ∷ l) zero x d e = cc
get_d_of (y ∷ l) (suc p) x d e = get_d_of l p x d e

pub step_at : (l : List Rule) (p : ℕ) (x d : Rule) (k : ℕ) (m : Bool) → get_elem? l p ≡ some x
    → step_of_clause (get_or l p d).clause k m ≡ step_of_clause x.clause k m
step_at l p x d k m e = ap (λ (y : Rule). step_of_clause y.clause k m) (get_d_of l p x d e)

module _ {l : List ℕ} {top i n : ℕ} where
  pub branched_one : (B : ℕ) → Branches l top i n (Kind.Unary B) → (m : List ℕ)
      → m ≡ splice l (4 * (top - 1)) (B ∷ i ∷ n ∷ 0 ∷ [])
      → Branched l m top (top - 1) 1 (B ∷ i ∷ n ∷ 0 ∷ [])
  branched_one B b m e =
      let r : 1 ≤ top = b.room in
      let v = B ∷ i ∷ n ∷ 0 ∷ [] in
      let fits : 4 * (top - 1) + 4 ≤ length l = omega (arith, b.within) in
      let j : 4 * (top - 1) + 4 ≡ 4 * top = omega arith in
      record {
        long = ap length e ∙ length_splice l (4 * (top - 1)) v fits;
        moved = omega arith;
        low = λ q y. ap (take (4 * q)) e ∙ take_splice_low l (4 * (top - 1)) v fits (4 * q)
            (omega arith);
        high = ap (drop (4 * (top - 1))) e ∙ drop_splice l (4 * (top - 1)) v fits
            ∙ ap (λ (x : ℕ). v ++ drop x l) j;
      }

  pub branched_two : (B C k : ℕ) → Branches l top i n (Kind.Binary B C k) → (m₁ m₂ : List ℕ)
      → m₁ ≡ splice l (4 * (top - 1)) (C ∷ (i + k) ∷ (n - k) ∷ 0 ∷ [])
      → m₂ ≡ splice m₁ (4 * (top - 2)) (B ∷ i ∷ k ∷ 0 ∷ [])
      → Branched l m₂ top (top - 2) 2 (B ∷ i ∷ k ∷ 0 ∷ C ∷ (i + k) ∷ (n - k) ∷ 0 ∷ [])
  branched_two B C k b m₁ m₂ e₁ e₂ =
      let r : 2 ≤ top = b.room in
      let v = C ∷ (i + k) ∷ (n - k) ∷ 0 ∷ [] in
      let u = B ∷ i ∷ k ∷ 0 ∷ [] in
      let f₁ : 4 * (top - 1) + 4 ≤ length l = omega (arith, b.within) in
      let n₁ : length m₁ ≡ length l = ap length e₁ ∙ length_splice l (4 * (top - 1)) v f₁ in
      let f₂ : 4 * (top - 2) + 4 ≤ length m₁ = omega arith in
      let j₁ : 4 * (top - 1) + 4 ≡ 4 * top = omega arith in
      let j₂ : 4 * (top - 2) + 4 ≡ 4 * (top - 1) = omega arith in
      record {
        long = ap length e₂ ∙ length_splice m₁ (4 * (top - 2)) u f₂ ∙ n₁;
        moved = omega arith;
        low = λ q y.
            ap (take (4 * q)) e₂ ∙ take_splice_low m₁ (4 * (top - 2)) u f₂ (4 * q) (omega arith)
            ∙ ap (take (4 * q)) e₁ ∙ take_splice_low l (4 * (top - 1)) v f₁ (4 * q) (omega arith);
        high =
            ap (drop (4 * (top - 2))) e₂ ∙ drop_splice m₁ (4 * (top - 2)) u f₂
            ∙ ap (λ (x : ℕ). u ++ drop x m₁) j₂
            ∙ ap (λ (x : List ℕ). u ++ x) (ap (drop (4 * (top - 1))) e₁
            ∙ drop_splice l (4 * (top - 1)) v f₁ ∙ ap (λ (x : ℕ). v ++ drop x l) j₁);
      }
