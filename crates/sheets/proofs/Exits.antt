-- What a refused call hands back.
use mathlib.Core.Path.{◌≡◌, ap, ◌∙◌}
use Rattle.std.specs.Prelude.{Result, Err}
use Rattle.std.specs.Result.{IsErrAnd}
use Rattle.std.proofs.lemmas.Result.{err_from_is_err_and}
use Rattle.sheets.specs.declared.Fault.{Fault}
use Rattle.sheets.specs.declared.Refusal.{Refusal}
use Rattle.sheets.specs.Results.{refusal}

module _ {A : Type 0} where
  -- by `?`, the very refusal
  pub handed_on : {e : Refusal} (r : Result A Refusal) → IsErrAnd r (λ (x : Refusal). x ≡ e)
      → r ≡ Err e
  handed_on r i = let p = err_from_is_err_and r i in p.1 ∙ ap (λ (x : Refusal). Err x) p.2

  -- made of a fault alone, one that names no line
  pub no_line : {f : Fault} {e : Refusal} → e ≡ record { fault = f; line = 0 }
      → ◌≡◌ {A = Result A Refusal} (Err e) (refusal f 0)
  no_line q = ap (λ (x : Refusal). Err x) q
