-- `acyclic::closed` meets its contract. The loop's invariant: members have the property. The set's
-- number grows with each turn but the last, after which no rule adds to it.
use Prim.Native.Nat.{ℕ, ◌-◌, ◌^◌}
use Rattle.sets.specs.Sets.{In}
use Rattle.grammar.specs.Content.{rules_of}
use Rattle.acyclic.proofs.closed.Given as goal

abbrev pub invariant-loop-set : goal.invariant-loop-set
invariant-loop-set g l = (Y : ℕ) → In l.set Y → g.A.Adding.aim l.x (rules_of l.g) Y

abbrev pub decreases-loop-set : goal.decreases-loop-set
decreases-loop-set g l = 2 ^ 64 - l.set
