use borrow.Author.Rules.{rules}
use native.Mathlib.Omega.{arith}
use Rattle.cuts.proofs.PutLaws.{least_member}
use Rattle.cuts.proofs.lowest.Goals as goal

-- src/lib.rt:179:5
pub overflow_cast-result : goal.overflow_cast-result
overflow_cast-result c = omega (arith, (least_member _ c.requires (search rules)).small)

-- src/lib.rt:175:1
pub returns : goal.returns
returns c = least_member _ c.requires (search rules)
