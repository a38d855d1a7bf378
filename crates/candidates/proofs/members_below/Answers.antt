-- The language's count of ones, of the members below x.
use native.Mathlib.Omega.{arith}
use Rattle.candidates.proofs.Members.{shl_pos, below_small, below_is}
use Rattle.candidates.proofs.members_below.Goals as goal

pub nonzero_rem-result : goal.nonzero_rem-result
nonzero_rem-result c = shl_pos c.args.x c.requires

pub overflow_cast-result-2 : goal.overflow_cast-result-2
overflow_cast-result-2 c = omega (
  arith,
  below_is c.args.set c.args.x c.requires,
  below_small
      c.args.set c.args.x,
  c.requires,
)

pub returns : goal.returns
returns c = below_is c.args.set c.args.x c.requires
