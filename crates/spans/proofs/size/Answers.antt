-- The closed form of the number of pairs; it is small enough for every sum.
use Prim.Native.Nat.{◌+◌, ◌*◌, ◌≤◌}
use native.Mathlib.Nat.{mul-le-mul_right}
use native.Mathlib.Omega.{arith}
use Rattle.spans.proofs.Places.{pairs_closed}
use Rattle.spans.proofs.size.Goals.{Start}
use Rattle.spans.proofs.size.Goals as goal

bound : (c : Start) → c.args.n * (c.args.n + 1) ≤ 64 * (c.args.n + 1)
bound c = mul-le-mul_right (c.args.n + 1) c.requires

pub overflow_mul-result : goal.overflow_mul-result
overflow_mul-result c = omega (arith, bound c)

pub overflow_add-result-2 : goal.overflow_add-result-2
overflow_add-result-2 c = omega (arith, bound c)

pub overflow_mul-result-2 : goal.overflow_mul-result-2
overflow_mul-result-2 c = omega (arith, bound c)

pub returns : goal.returns
returns c = omega (arith, pairs_closed c.args.n)
