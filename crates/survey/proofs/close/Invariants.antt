-- `survey::close` meets its contract. The loop's invariant: members have the property. The set's
-- number grows with each turn but the last, after which no rule adds to it.
use Prim.Native.Nat.{ℕ, ◌-◌, ◌^◌}
use Rattle.sets.specs.Sets.{In}
use Rattle.grammar.specs.Content.{rules_of}
use Rattle.survey.specs.Closing.{Aimed}
use Rattle.survey.proofs.close.Given as goal

abbrev pub invariant-loop-set : goal.invariant-loop-set
invariant-loop-set l = (Y : ℕ) → In l.set Y → Aimed (rules_of l.g) l.aim Y

abbrev pub decreases-loop-set : goal.decreases-loop-set
decreases-loop-set l = 2 ^ 64 - l.set
