-- `lengths::completed` meets its contract. The loop's invariant: all that is known is possible, and
-- rules that name nothing new give it nothing. The weight grows with each turn but the last.
use Prim.Native.Nat.{◌-◌}
use Rattle.grammar.specs.Content.{rules_of}
use Rattle.lengths.specs.Passes.{Sound, Open, weigh}
use Rattle.lengths.proofs.completed.Given as goal

abbrev pub invariant-loop-new : goal.invariant-loop-new
invariant-loop-new l = Sound (rules_of l.g) l.known × Open (rules_of l.g) l.known l.new

abbrev pub decreases-loop-new : goal.decreases-loop-new
decreases-loop-new l = 16384 - weigh l.known.sets
