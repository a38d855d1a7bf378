-- What a sheet gives is one thing.
use mathlib.Core.Path.{◌≡◌, sym, ◌∙◌}
use Prim.Native.Nat.{ℕ}
use Rattle.sets.proofs.Basics.{clash}
use Rattle.sheets.specs.declared.Fault.{Fault}
use Rattle.sheets.specs.Items.{Reading, accepted, refused}
use Rattle.sheets.specs.Refusals.{number_of, RefusedAs}
use Rattle.sheets.proofs.Numbers.{same_fault}

module _ {A : Type 0} {o : Reading A} where
  pub never_both : {n l : ℕ} {x : A} → o ≡ refused n l → o ≡ accepted x → ⊥
  never_both e d = clash cc

  pub apart : {f : Fault} {l : ℕ} {x : A} → RefusedAs o f l → o ≡ accepted x → ⊥
  apart r d = never_both r.is d

  pub same_items : {x y : A} → o ≡ accepted x → o ≡ accepted y → x ≡ y
  same_items e d = cc

  pub same_refusal : {f f' : Fault} {l l' : ℕ} → RefusedAs o f l → RefusedAs o f' l'
      → (f ≡ f') × (l ≡ l')
  same_refusal {f} {f'} {l} {l'} r s =
      let e = sym r.is ∙ s.is in
      let n : number_of f ≡ number_of f' = cc in
      let k : l ≡ l' = cc in
      (same_fault f f' (number_of f') n (λ i. number_of f'), k)
