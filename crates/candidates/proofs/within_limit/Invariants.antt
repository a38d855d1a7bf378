-- `candidates::within_limit` meets its contract. The loop's invariant: `m` is the product for i
-- tokens; above the limit it stays above.
use Prim.Native.Nat.{◌≤◌}
use mathlib.Core.Path.{◌≡◌}
use Rattle.candidates.proofs.Limit.{partly}
use Rattle.candidates.proofs.within_limit.Given as goal

abbrev pub invariant-loop-i : goal.invariant-loop-i
invariant-loop-i l = (1 ≤ l.i) × (l.i ≤ l.k) × (l.m ≡ partly l.t l.k l.i)
