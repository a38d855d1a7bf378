-- The columns of the token with several are tried one by one, until few choices are left.
use mathlib.Core.Path.{sym, ap}
use Prim.Native.Nat.{◌+◌, ◌<◌}
use native.Mathlib.Omega.{arith}
use lib.ListN.{length}
use Rattle.grammar.specs.SpanSheet.{pairs}
use Rattle.column_ranges.specs.Ranges.{columns}
use Rattle.column_ranges.specs.RangeSentences.{range, ranges_of}
use Rattle.column_ranges.proofs.Counting.{range_read, ended_at}
use Rattle.narrowing.proofs.Choices.{slack, slack_less}
use Rattle.column_search.proofs.Searching.{leaved_small, leaved_narrowed, beside_as}
use Rattle.column_search.proofs.Searching.{searched_none, searched_after}
use Rattle.column_search.proofs.Searching.{searched_nothing_new}
use Rattle.column_search.proofs.Searching.{turn_none, turn_more, turn_all}
use Rattle.column_search.proofs.+search.Goals as goal

pub returns-then-settled : goal.returns-then-settled
returns-then-settled t c = record {
  searched = searched_none (c.settled.ensures.leave c.if-settled.true);
  beside_2 = c.requires.beside;
}

pub returns-then-nothing_new : goal.returns-then-nothing_new
returns-then-nothing_new t c = record {
  searched = searched_nothing_new c.nothing_new.ensures.idles c.if-nothing_new.true;
  beside_2 = c.nothing_new.ensures.beside_2;
}

pub bounds-r-t : goal.bounds-r-t
bounds-r-t t c =
    omega (arith, c.in-Some.ensures.here, c.requires.spread.few, c.requires.spread.whole)

pub columns-m-requires : goal.columns-m-requires
columns-m-requires t c =
    ended_at c.requires.spread c.in-Some.t
    (omega (arith, c.in-Some.ensures.here, c.requires.spread.whole))

pub loop-c-init : goal.loop-c-init
loop-c-init t c = (
  turn_none c.requires.spread (omega (arith, c.in-Some.ensures.here, c.requires.spread.whole)),
  c.nothing_new.ensures.beside_2,
)

pub narrowed-s-requires : goal.narrowed-s-requires
narrowed-s-requires t c =
    let h : c.in-Some.t < c.args.r.count =
    omega (arith, c.in-Some.ensures.here, c.requires.spread.whole) in
    record {
      spread = (c.requires.spread, h);
      c_bound = omega (
        arith,
        c.loop-c-test.true,
        c.columns-m.ensures,
        ap columns (range_read c.args.r c.in-Some.t h),
      );
    }

pub search-found-requires : goal.search-found-requires
search-found-requires t c =
    let q = c.narrowed-s.ensures in
    let v = c.loop-c.invariant in
    let i = c.nothing_new.ensures.idles.leaving in
    let p = c.requires in
    let r = c.args.r in
    let n = c.in-Some.t in
    let h : n < r.count = omega (arith, c.in-Some.ensures.here, c.requires.spread.whole) in
    let l : n < length (ranges_of r) = omega (arith, h, p.spread.whole) in
    let y = slack_less (ranges_of r) n ((range (ranges_of r) n).low.0 + c.loop-c.c) l
    c.in-Some.ensures.several in (
      omega (arith, y, ap slack q.is),
      (
        p.formed,
        (
          q.spread,
          (
            omega (
              arith,
              ap pairs q.count,
              v.0.leaving.past.long,
              i.past.long,
              p.count_in_bounds,
            ),
            (
              leaved_narrowed p.spread h q (leaved_small v.0.leaving.small
                  (leaved_small i.small p.leaved)),
              beside_as q.count v.1,
            ),
          ),
        ),
      ),
    )

pub loop-c-smaller : goal.loop-c-smaller
loop-c-smaller t c = omega (arith, c.loop-c-test.true)

pub loop-c-preserved : goal.loop-c-preserved
loop-c-preserved t c =
    let r = c.args.r in
    let n = c.in-Some.t in
    let h : n < r.count = omega (arith, c.in-Some.ensures.here, c.requires.spread.whole) in
    let q = c.narrowed-s.ensures in (
      turn_more c.requires.spread h (omega (
        arith,
        c.loop-c-test.true,
        c.columns-m.ensures,
        ap columns (range_read r n h),
      )) c.loop-c.invariant.0 q c.search-found.ensures.searched,
      beside_as (sym q.count) c.search-found.ensures.beside_2,
    )

pub returns : goal.returns
returns t c =
    let r = c.args.r in
    let n = c.in-Some.t in
    let h : n < r.count = omega (arith, c.in-Some.ensures.here, c.requires.spread.whole) in
    record {
      searched = searched_after c.nothing_new.ensures.idles.leaving
          (turn_all c.requires.spread h (omega (
            arith,
            c.loop-c-test.false,
            c.columns-m.ensures,
            ap columns (range_read r n h),
          )) c.loop-c.invariant.0);
      beside_2 = c.loop-c.invariant.1;
    }
