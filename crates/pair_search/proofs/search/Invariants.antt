use Prim.Native.Nat.{◌*◌, ◌-◌, ◌^◌}
use Rattle.pair_search.specs.Running.{table_sum}
use Rattle.pair_search.proofs.RoundLaws.{Searching}
use Rattle.pair_search.proofs.search.Given as goal

abbrev pub invariant-loop : goal.invariant-loop
invariant-loop l = Searching l.nodes l.initial.words l.words

abbrev pub decreases-loop : goal.decreases-loop
decreases-loop l = 65536 * 2 ^ 64 - table_sum l.words
