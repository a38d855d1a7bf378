-- The sheet of what may hold, then that of what must.
use mathlib.Core.Path.{ap, ◌∙◌, sym}
use mathlib.Core.Bool.{Bool, not, ◌&&◌}
use native.Mathlib.Omega.{arith}
use lib.ListN.{length}
use Rattle.grammar.specs.SpanSheet.{pairs}
use Rattle.range_marks.proofs.Bounds.{exchanged_long}
use Rattle.column_ranges.specs.RangeSentences.{ranges_of}
use Rattle.column_search.proofs.Searching.{outlook_all, beside_as}
use Rattle.column_search.proofs.outlook.Goals as goal

pub fill_ranges-requires : goal.fill_ranges-requires
fill_ranges-requires c =
    let p = c.requires in
    record {
      count_fits = record { few = p.spread.few; whole = p.spread.whole };
      count_in_bounds = p.count_in_bounds;
      formed = (p.formed, p.beside);
    }

pub in_first-may_one-requires : goal.in_first-may_one-requires
in_first-may_one-requires c = record {
  few = c.requires.spread.few;
  fits = omega arith;
  small = omega arith;
  enough = omega (arith, c.requires.count_in_bounds, c.fill_ranges.ensures.solves.past.long);
}

pub in_second-may_two-requires : goal.in_second-may_two-requires
in_second-may_two-requires c = record {
  few = c.requires.spread.few;
  fits = omega arith;
  small = omega arith;
  enough = omega (arith, c.requires.count_in_bounds, c.fill_ranges.ensures.solves.past.long);
}

pub exchanged_ends-x-requires : goal.exchanged_ends-x-requires
exchanged_ends-x-requires c = (c.requires.spread.few, c.requires.spread.whole)

pub fill_ranges-requires-2 : goal.fill_ranges-requires-2
fill_ranges-requires-2 c =
    let p = c.requires in
    let f = c.fill_ranges.ensures in
    let x = c.exchanged_ends-x.ensures in
    record {
      count_fits = record {
        few = omega (arith, x.0, p.spread.few);
        whole = ap length x.1 ∙ exchanged_long (ranges_of c.args.r) ∙ p.spread.whole ∙ sym x.0;
      };
      count_in_bounds = omega (arith, ap pairs x.0, p.count_in_bounds, f.solves.past.long);
      formed = (p.formed, beside_as x.0 f.beside);
    }

pub in_first-must_one-requires : goal.in_first-must_one-requires
in_first-must_one-requires c = record {
  few = c.requires.spread.few;
  fits = omega arith;
  small = omega arith;
  enough = omega (
    arith,
    c.requires.count_in_bounds,
    c.fill_ranges.ensures.solves.past.long,
    c.fill_ranges-2.ensures.solves.past.long,
  );
}

pub in_second-must_two-requires : goal.in_second-must_two-requires
in_second-must_two-requires c = record {
  few = c.requires.spread.few;
  fits = omega arith;
  small = omega arith;
  enough = omega (
    arith,
    c.requires.count_in_bounds,
    c.fill_ranges.ensures.solves.past.long,
    c.fill_ranges-2.ensures.solves.past.long,
  );
}

pub returns-then-may_one : goal.returns-then-may_one
returns-then-may_one c =
    let p = c.requires in
    let x = c.exchanged_ends-x in
    let f = c.fill_ranges-2.ensures in
    record {
      foreseen = outlook_all x.result p.formed.distinct p.spread p.leaved
          c.fill_ranges.ensures.solves x.ensures f.solves c.in_first-may_one.ensures
          c.in_second-may_two.ensures c.in_first-must_one.ensures c.in_second-must_two.ensures
          (ap (λ (b : Bool). b && not c.in_second-must_two.result) c.if-may_one.true);
      beside_2 = beside_as (sym x.ensures.0) f.beside;
    }

pub returns-else-may_one : goal.returns-else-may_one
returns-else-may_one c =
    let p = c.requires in
    let x = c.exchanged_ends-x in
    let f = c.fill_ranges-2.ensures in
    record {
      foreseen = outlook_all x.result p.formed.distinct p.spread p.leaved
          c.fill_ranges.ensures.solves x.ensures f.solves c.in_first-may_one.ensures
          c.in_second-may_two.ensures c.in_first-must_one.ensures c.in_second-must_two.ensures
          (ap (λ (b : Bool). b && not c.in_second-must_two.result) c.if-may_one.false
          ∙ sym c.if-may_one.false);
      beside_2 = beside_as (sym x.ensures.0) f.beside;
    }
