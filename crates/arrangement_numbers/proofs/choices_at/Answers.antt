-- A product of three small numbers.
use Prim.Native.Nat.{◌<◌, ◌^◌}
use native.Mathlib.Omega.{arith}
use lib.Count.{ones-le}
use Rattle.arrangement_numbers.proofs.Working.{radix_is, product_small, largest_small}
use Rattle.arrangement_numbers.proofs.choices_at.Lts
use Rattle.arrangement_numbers.proofs.choices_at.Reads
use Rattle.arrangement_numbers.proofs.choices_at.Tie
use Rattle.arrangement_numbers.proofs.choices_at.Goals as goal

below : (c : Lts.Start Tie.the-claims Reads.Pre Reads.Post) → c.args.set < 2 ^ 64
below c = omega (arith, c.well_formed)

pub overflow_cast-t : goal.overflow_cast-t
overflow_cast-t c = omega (arith, ones-le 64 c.args.set (below c))

pub overflow_mul-result : goal.overflow_mul-result
overflow_mul-result c =
    rw c.steps_at.ensures (omega (
      arith,
      product_small _ _ _ (ones-le 64 c.args.set (below c.before))
          (largest_small c.args.i) c.requires,
    ))

pub overflow_mul-result-2 : goal.overflow_mul-result-2
overflow_mul-result-2 c =
    rw c.steps_at.ensures (omega (
      arith,
      product_small _ _ _ (ones-le 64 c.args.set (below c.before))
          (largest_small c.args.i) c.requires,
    ))

pub returns : goal.returns
returns c = radix_is c.args.set c.args.n c.args.i _
    c.steps_at.ensures
