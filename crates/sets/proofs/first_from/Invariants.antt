-- `sets::first_from` meets its contract. The loop's invariant: no member stands between `from` and
-- `t`.
use Prim.Native.Nat.{ℕ, ◌≤◌}
use Rattle.sets.specs.Sets.{In}
use Rattle.sets.proofs.first_from.Given as goal

abbrev pub invariant-loop-t : goal.invariant-loop-t
invariant-loop-t l = (l.from ≤ l.t) × (l.t ≤ 64) × ((x : ℕ) → In l.set x → l.from ≤ x → l.t ≤ x)
