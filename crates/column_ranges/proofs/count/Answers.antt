use Prim.Native.Nat.{◌-◌}
use native.Mathlib.Omega.{arith}
use Rattle.column_ranges.proofs.Counting.{ended_at, counting_none, counting_more}
use Rattle.column_ranges.proofs.Counting.{counts_over, counts_all, product_fits}
use Rattle.column_ranges.proofs.count.Goals as goal

pub loop-i-init : goal.loop-i-init
loop-i-init c = counting_none c.requires

pub offset_bounds-r-i : goal.offset_bounds-r-i
offset_bounds-r-i c = omega (arith, c.loop-i.invariant.inside, c.requires.few)

pub bounds-r-i : goal.bounds-r-i
bounds-r-i c = omega (arith, c.loop-i.invariant.inside, c.requires.few)

pub columns-m-requires : goal.columns-m-requires
columns-m-requires c = ended_at c.requires _
    (omega (arith, c.loop-i.invariant.inside, c.loop-i-test.true))

pub overflow_mul-m : goal.overflow_mul-m
overflow_mul-m c =
    omega (
      arith,
      product_fits c.requires c.loop-i-test.true c.loop-i.invariant
          c.columns-m.ensures,
    )

pub returns-then-m-gt65536 : goal.returns-then-m-gt65536
returns-then-m-gt65536 c =
    counts_over c.requires _ (c.loop-i.i - 1) c.if-m-gt65536.true
    (counting_more c.requires c.loop-i-test.true c.loop-i.invariant
    c.columns-m.ensures)

pub loop-i-preserved : goal.loop-i-preserved
loop-i-preserved c =
    record {
      inside = omega (arith, c.loop-i.invariant.inside);
      few = c.if-m-gt65536.false;
      exact = counting_more c.requires c.loop-i-test.true
          c.loop-i.invariant c.columns-m.ensures;
    }

pub returns : goal.returns
returns c = counts_all c.requires _ _ (omega arith) c.loop-i.invariant
