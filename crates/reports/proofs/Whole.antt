-- All bytes from a place on, compared.
use mathlib.Core.Path.{◌≡◌, sym, ap, ◌∙◌}
use mathlib.Core.Bool.{Bool, true, false}
use mathlib.Core.List.{List}
use Prim.Native.Nat.{ℕ, ◌-◌}
use native.Mathlib.Omega.{arith}
use lib.ListN.{length, take, drop, length-drop}
use lib.Seq.{take_all}
use Rattle.fields.specs.Pieces.{same_bytes}
use Rattle.fields.proofs.Cuts.{same_path}
use Rattle.sets.specs.Says.{Says}
use Rattle.sets.proofs.Says.{holds, fails, true_not_false}
use Rattle.scanning.proofs.Starting.{same_self}

pub same_whole : (s : List ℕ) (at : ℕ) (bytes : List ℕ) (b : Bool)
    → b ≡ same_bytes (take (length s - at) (drop at s)) bytes → Says b (drop at s ≡ bytes)
same_whole s at bytes b e = go b
    (e ∙ ap (λ (l : List ℕ). same_bytes l bytes)
    (take_all (length s - at) (drop at s) (omega (arith, length-drop at s))))
  where
    go : (b : Bool) → b ≡ same_bytes (drop at s) bytes → Says b (drop at s ≡ bytes)
    go true p = holds (same_path (drop at s) bytes (sym p))
    go false p = fails (λ q. true_not_false
        (sym (ap (λ (l : List ℕ). same_bytes l bytes) q ∙ same_self bytes) ∙ sym p))
