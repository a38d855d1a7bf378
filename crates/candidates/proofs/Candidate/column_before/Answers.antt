-- `candidates::Candidate::column_before` meets its contract.
use Prim.Native.Nat.{ℕ, zero, suc, ◌-◌}
use mathlib.Core.Path.{◌≡◌, refl, ap}
use native.Mathlib.Omega.{arith}
use Rattle.candidates.specs.declared.Candidate.{Candidate}
use Rattle.candidates.specs.Arrays.{cell_at}
use Rattle.candidates.specs.Windows.{column_before_of}
use Rattle.candidates.proofs.Candidate.column_before.Goals as goal

later : (c : Candidate) (i : ℕ) → (i ≡ 0 → ⊥) → (cell_at c (i - 1)).column ≡ column_before_of c i
later c zero h = absurd (h refl)
later c (suc i) h = ap (λ (j : ℕ). (cell_at c j).column) (omega arith)

pub returns-else-i-eq0 : goal.returns-else-i-eq0
returns-else-i-eq0 c = later c.args.self c.args.i c.if-i-eq0.false
