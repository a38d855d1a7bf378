-- The columns of the last token with several are tried one by one.
use mathlib.Core.Path.{ap}
use Prim.Native.Nat.{◌+◌, ◌≤◌, ◌<◌}
use native.Mathlib.Omega.{arith}
use lib.ListN.{length}
use Rattle.grammar.specs.SpanSheet.{pairs}
use Rattle.column_ranges.specs.Ranges.{columns}
use Rattle.column_ranges.specs.RangeSentences.{range, ranges_of}
use Rattle.column_ranges.proofs.Counting.{range_read, ended_at}
use Rattle.narrowing.proofs.Choices.{slack, slack_less}
use Rattle.column_search.proofs.Few.{singles_narrowed, before_narrowed, behind_narrowed}
use Rattle.column_search.proofs.Few.{behind_widened, behind_later, several_past}
use Rattle.column_search.proofs.Searching.{leaved_small, leaved_narrowed}
use Rattle.column_search.proofs.Searching.{searched_none, searched_after}
use Rattle.column_search.proofs.Searching.{turn_none, turn_more, turn_all}
use Rattle.column_search.proofs.+search_few.Goals as goal

pub returns-then-settled : goal.returns-then-settled
returns-then-settled t c = record {
  searched = searched_none (c.settled.ensures.leave c.if-settled.true);
  behind_2 = c.requires.behind;
}

pub last_token-requires : goal.last_token-requires
last_token-requires t c = record {
  spread = (c.requires.spread, c.requires.to_le_count.0);
  singles_from = c.requires.to_le_count.1;
}

pub try_choice-requires : goal.try_choice-requires
try_choice-requires t c = record {
  formed = c.requires.formed;
  spread = (
    c.requires.spread,
    c.in_default.ensures,
    c.settled.ensures.stay c.if-settled.false,
  );
  count_in_bounds = c.requires.count_in_bounds;
  leaved = c.requires.leaved;
  to_le_count = (c.requires.to_le_count.0, c.requires.behind);
}

pub overflow_add-t : goal.overflow_add-t
overflow_add-t t c =
    record {
      fits =
          omega (arith, c.in-Some.ensures.one.here, c.requires.spread.few, c.requires.spread.whole);
    }

pub fill_between-requires : goal.fill_between-requires
fill_between-requires t c =
    let p = c.requires.spread in
    let h : c.in-Some.t < length (ranges_of c.args.r) =
    c.in-Some.ensures.one.here in
    record {
      count_fits = (
        record { few = p.few; whole = p.whole },
        omega (arith, c.in-Some.ensures.before),
        c.requires.to_le_count.0,
      );
      count_in_bounds = c.requires.count_in_bounds;
      formed = c.requires.formed;
      behind = c.requires.behind;
    }

pub bounds-r-t : goal.bounds-r-t
bounds-r-t t c =
    omega (arith, c.in-Some.ensures.one.here, c.requires.spread.few, c.requires.spread.whole)

pub columns-m-requires : goal.columns-m-requires
columns-m-requires t c =
    ended_at c.requires.spread c.in-Some.t
    (omega (arith, c.in-Some.ensures.one.here, c.requires.spread.whole))

pub loop-i-init : goal.loop-i-init
loop-i-init t c = (
  turn_none c.requires.spread (omega (arith, c.in-Some.ensures.one.here, c.requires.spread.whole)),
  record {
    beside = c.fill_between.ensures.beside;
    solved = c.fill_between.ensures.advances.solved;
  },
)

pub narrowed-s-requires : goal.narrowed-s-requires
narrowed-s-requires t c =
    let h : c.in-Some.t < c.args.r.count =
    omega (arith, c.in-Some.ensures.one.here, c.requires.spread.whole) in
    record {
      spread = (c.requires.spread, h);
      c_bound = omega (
        arith,
        c.loop-i-test.true,
        c.columns-m.ensures,
        ap columns (range_read c.args.r c.in-Some.t h),
      );
    }

pub overflow_add-t-in-loop-i : goal.overflow_add-t-in-loop-i
overflow_add-t-in-loop-i t c =
    record {
      fits =
          omega (arith, c.in-Some.ensures.one.here, c.requires.spread.few, c.requires.spread.whole);
    }

pub search_few-found-requires : goal.search_few-found-requires
search_few-found-requires t c =
    let q = c.narrowed-s.ensures in
    let i = c.loop-i.invariant in
    let f = c.fill_between.ensures.advances in
    let k = c.in-Some.ensures in
    let p = c.requires in
    let r = c.args.r in
    let v = c.in-Some.t in
    let h : v < r.count = omega (arith, c.in-Some.ensures.one.here, c.requires.spread.whole) in
    let l : v < length (ranges_of r) = omega (arith, h, p.spread.whole) in
    let b : c.args.from ≤ v = several_past p.to_le_count.2 l k.one.several in
    let y = slack_less (ranges_of r) v ((range (ranges_of r) v).low.0 + c.loop-i.i) l
    k.one.several in (
      omega (arith, y, ap slack q.is),
      (
        p.formed,
        (
          q.spread,
          (
            omega (
              arith,
              ap pairs q.count,
              i.0.leaving.past.long,
              f.past.long,
              p.count_in_bounds,
            ),
            (
              leaved_narrowed p.spread h q (leaved_small i.0.leaving.small
                  (leaved_small f.small p.leaved)),
              (
                (
                  omega (arith, h, q.count),
                  singles_narrowed p.spread q k.behind,
                  before_narrowed p.spread q b p.to_le_count.2,
                ),
                behind_narrowed p.spread q b i.1,
              ),
            ),
          ),
        ),
      ),
    )

pub loop-i-smaller : goal.loop-i-smaller
loop-i-smaller t c = omega (arith, c.loop-i-test.true)

pub loop-i-preserved : goal.loop-i-preserved
loop-i-preserved t c =
    let p = c.requires in
    let r = c.args.r in
    let v = c.in-Some.t in
    let k = c.in-Some.ensures in
    let h : v < r.count = omega (arith, c.in-Some.ensures.one.here, c.requires.spread.whole) in
    let l : v < length (ranges_of r) = omega (arith, h, p.spread.whole) in
    let b : c.args.from ≤ v = several_past p.to_le_count.2 l k.one.several in
    let q = c.narrowed-s.ensures in (
      turn_more p.spread h (omega (
        arith,
        c.loop-i-test.true,
        c.columns-m.ensures,
        ap columns (range_read r v h),
      )) c.loop-i.invariant.0 q c.search_few-found.ensures.searched,
      behind_widened p.spread q b c.search_few-found.ensures.behind_2,
    )

pub returns : goal.returns
returns t c =
    let r = c.args.r in
    let v = c.in-Some.t in
    let h : v < r.count = omega (arith, c.in-Some.ensures.one.here, c.requires.spread.whole) in
    let p = c.requires in
    let l : v < length (ranges_of r) = omega (arith, h, p.spread.whole) in
    let f = c.fill_between.ensures.advances in
    record {
      searched = searched_after (record { small = f.small; past = f.past })
          (turn_all p.spread h (omega (
            arith,
            c.loop-i-test.false,
            c.columns-m.ensures,
            ap columns (range_read r v h),
          )) c.loop-i.invariant.0);
      behind_2 = behind_later (omega (arith, c.in-Some.ensures.before))
          c.loop-i.invariant.1;
    }
