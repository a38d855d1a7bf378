-- The loop's invariant: the set has the numbers from a to below i besides.
use Prim.Native.Nat.{◌≤◌}
use mathlib.Core.Path.{◌≡◌}
use mathlib.Core.Logic.{◌⊎◌}
use Rattle.candidates.proofs.TerminalSets.{Reached}
use Rattle.candidates.proofs.with_range.Given as goal

abbrev pub invariant-loop-i : goal.invariant-loop-i
invariant-loop-i l = ((l.i ≡ l.a) ⊎ (l.i ≤ l.b)) × Reached l.set l.a l.i l.u
