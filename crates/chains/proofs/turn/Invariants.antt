use Prim.Native.Nat.{◌≤◌}
use Rattle.chains.specs.Reaching.{Turned}
use Rattle.chains.proofs.turn.Given as goal

abbrev pub invariant-loop-a : goal.invariant-loop-a
invariant-loop-a l = (l.a ≤ 64) × Turned l.seen l.twice l.a l.ups
