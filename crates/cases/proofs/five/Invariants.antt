-- `five` keeps the number below the power of ten of the digits that were read.
use Rattle.std.proofs.Common.{◌^◌, ◌<◌}
use Rattle.cases.proofs.five.Given as goal

abbrev pub invariant-loop-b : goal.invariant-loop-b
invariant-loop-b l = l.n < 10 ^ l.b-index
