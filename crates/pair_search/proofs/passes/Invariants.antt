use Prim.Native.Nat.{◌*◌, ◌-◌, ◌^◌}
use Rattle.pair_search.specs.Running.{table_sum}
use Rattle.pair_search.proofs.RoundLaws.{Resting}
use Rattle.pair_search.proofs.passes.Given as goal

abbrev pub invariant-loop-n : goal.invariant-loop-n
invariant-loop-n l = Resting l.nodes l.initial.words l.words l.still

abbrev pub decreases-loop-n : goal.decreases-loop-n
decreases-loop-n l = 65536 * 2 ^ 64 - table_sum l.words
