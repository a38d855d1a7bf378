-- `candidates::Candidate::largest_step` meets its contract.
use Prim.Native.Nat.{ℕ, zero, suc}
use mathlib.Core.Path.{◌≡◌, refl}
use Rattle.candidates.specs.Windows.{largest_step_of}
use Rattle.candidates.proofs.Candidate.largest_step.Goals as goal

later : (i : ℕ) → (i ≡ 0 → ⊥) → 2 ≡ largest_step_of i
later zero h = absurd (h refl)
later (suc i) h = refl

pub returns-else-i-eq0 : goal.returns-else-i-eq0
returns-else-i-eq0 c = later _ c.if-i-eq0.false
