-- `tried_count::lesser_at` meets its contract.
use Prim.Native.Nat.{◌-◌}
use native.Mathlib.Omega.{arith}
use Rattle.tried_count.proofs.Columns.{sum_small, ways_small, lesser_here, lesser_later}
use Rattle.tried_count.proofs.lesser_at.Goals as goal

pub returns-then-s-eq0 : goal.returns-then-s-eq0
returns-then-s-eq0 c = lesser_here _ _ _ _ _ _ c.if-s-eq0.true c.sum_between.ensures

pub overflow_add-result : goal.overflow_add-result
overflow_add-result c =
    omega (
      arith,
      c.ways_at.ensures,
      ways_small c.args.row c.args.n (c.args.s - 1) c.args.p c.requires.4 c.requires.0
          (omega (arith, c.requires.1)),
      c.sum_between-2.ensures,
      sum_small c.args.row 0 (c.args.k - 1 - 0) c.requires.4
          (omega (arith, c.requires.0, c.requires.2)),
    )

pub returns : goal.returns
returns c = lesser_later _ _ _ _ _ _ _ c.if-s-eq0.false
    c.ways_at.ensures c.sum_between-2.ensures
