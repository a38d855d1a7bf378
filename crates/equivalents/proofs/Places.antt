-- The cell at a place of a list.
use mathlib.Core.Path.{◌≡◌, sym, ap, subst}
use mathlib.Core.List.{List, [], ◌∷◌}
use Prim.Native.Nat.{ℕ, zero, suc, ◌+◌, ◌<◌}
use native.Mathlib.Omega.{arith}
use lib.ListN.{length, take}
use Rattle.grammar.specs.declared.Cell.{Cell}
use Rattle.candidates.specs.declared.Candidate.{Candidate}
use Rattle.candidates.specs.Arrays.{cell_at, cells}
use Rattle.candidates.specs.Succession.{Shares}
use Rattle.equivalents.specs.Twins.{At}

module _ (P : Cell → Type 0) where
  -- what shares the cell at p has P there too
  pub at_shared : (p b : ℕ) (ds cs : List Cell) → p < b → Shares b ds cs → At P p cs → At P p ds
  at_shared p zero ds cs h e t = absurd (omega arith)
  at_shared p (suc b) ds [] h e t = absurd t
  at_shared p (suc b) [] (c ∷ cs) h e t =
      absurd (let z : 0 ≡ suc (length (take b cs)) = ap length e in omega arith)
  at_shared zero (suc b) (d ∷ ds) (c ∷ cs) h e t = let q : d ≡ c = cc in subst P (sym q) t
  at_shared (suc p) (suc b) (d ∷ ds) (c ∷ cs) h e t = let r : take b ds ≡ take b cs = cc in
      at_shared p b ds cs (omega arith) r t

  at_from : (c : Candidate) (i p n : ℕ) → p < n → P (cell_at c (i + p)) → At P p (cells c i n)
  at_from c i p zero h e = absurd (omega arith)
  at_from c i zero (suc n) h e =
      subst (λ (x : ℕ). P (cell_at c x)) (let z : i + 0 ≡ i = omega arith in z) e
  at_from c i (suc p) (suc n) h e = at_from c (suc i) p n (omega arith)
      (subst (λ (x : ℕ). P (cell_at c x)) (let z : i + suc p ≡ suc i + p = omega arith in z) e)

  pub at_cells : (c : Candidate) (p n : ℕ) → p < n → P (cell_at c p) → At P p (cells c 0 n)
  at_cells c p n h e =
      at_from c 0 p n h (subst (λ (x : ℕ). P (cell_at c x)) (let z : p ≡ 0 + p = omega arith in z)
      e)
