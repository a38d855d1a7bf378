-- 49 by the count of the choices.
use native.Mathlib.Omega.{arith}
use Prim.Native.Nat.{◌≤◌}
use Rattle.column_ranges.specs.Ranges.{choice_count, choice_limit}
use Rattle.range_sheets.proofs.Accepted.{counted_few, counted_many}
use Rattle.column_ranges.specs.RangeSentences.{ranges_of}
use Rattle.range_sheets.proofs.finished.Goals as goal

pub returns-then-count-gt65536 : goal.returns-then-count-gt65536
returns-then-count-gt65536 c =
    record { is = counted_many (ranges_of c.args.s) (c.count.ensures.over (omega arith)) }

pub returns : goal.returns
returns c =
    let e = c.count.ensures.exact (omega arith) in
    let h : choice_count (ranges_of c.args.s) ≤ choice_limit = omega (arith, e) in
    record { is = counted_few (ranges_of c.args.s) h; spread = c.requires; few = h }
