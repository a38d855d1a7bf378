-- `candidates::terminal_count` meets its contract: the language's count of ones is `ones`.
use Prim.Native.Nat.{◌<◌, ◌^◌}
use native.Mathlib.Omega.{arith}
use lib.Count.{ones-le}
use Rattle.candidates.proofs.Counting.{counted}
use Rattle.candidates.proofs.terminal_count.Goals.{Start}
use Rattle.candidates.proofs.terminal_count.Goals as goal

below : (c : Start) → c.args.set < 2 ^ 64
below c = omega (arith, c.well_formed)

pub overflow_cast-result : goal.overflow_cast-result
overflow_cast-result c = omega (arith, ones-le 64 c.args.set (below c))

pub returns : goal.returns
returns c = counted c.args.set (below c)
