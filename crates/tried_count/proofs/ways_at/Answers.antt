-- `tried_count::ways_at` meets its contract.
use Prim.Native.Nat.{◌-◌, ◌*◌, ◌≤◌}
use native.Mathlib.Omega.{arith}
use Rattle.tried_count.proofs.Columns.{sum_small, double_small, ways_is}
use Rattle.tried_count.proofs.ways_at.Goals.{After-sum_between-2}
use Rattle.tried_count.proofs.ways_at.Goals as goal

-- the two sums are small
twice : (c : After-sum_between-2)
    → c.args.m * c.sum_between-2.result ≤ 60129542144
twice c = double_small c.args.m c.sum_between-2.result c.requires.1
    (omega (
      arith,
      c.sum_between-2.ensures,
      sum_small c.args.row 0 (c.args.n - 0)
          c.requires.2 (omega (arith, c.requires.0)),
    ))

pub overflow_mul-result : goal.overflow_mul-result
overflow_mul-result c = omega (arith, twice c)

pub overflow_add-result : goal.overflow_add-result
overflow_add-result c =
    omega (
      arith,
      twice c,
      c.sum_between.ensures,
      sum_small c.args.row c.args.p
          (c.args.n - c.args.p) c.requires.2 (omega (arith, c.requires.0)),
    )

pub returns : goal.returns
returns c = ways_is _ _ _ _ _ _ c.sum_between.ensures c.sum_between-2.ensures
