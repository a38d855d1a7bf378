use Prim.Native.Nat.{◌*◌, ◌-◌, ◌^◌}
use Rattle.pair_search.specs.Running.{table_sum}
use Rattle.pair_search.proofs.RoundLaws.{Resting}
use Rattle.pair_search.proofs.quick.Given as goal

abbrev pub invariant-loop-g : goal.invariant-loop-g
invariant-loop-g l = Resting l.nodes l.initial.words l.words l.still

abbrev pub decreases-loop-g : goal.decreases-loop-g
decreases-loop-g l = 65536 * 2 ^ 64 - table_sum l.words
