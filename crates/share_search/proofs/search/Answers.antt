use mathlib.Core.Path.{ap₂}
use Prim.Native.Nat.{◌+◌, ◌^◌, ◌<◌}
use native.Mathlib.Omega.{arith}
use Rattle.spans.proofs.ChangeLaws.{past_same, past_then}
use Rattle.share_search.proofs.Turns.{over, at_end}
use Rattle.share_search.proofs.Looking.{turn_first, turn_next, turn_more, next_falls, hit_of}
use Rattle.share_search.proofs.search.Goals as goal

pub open_sheet-requires : goal.open_sheet-requires
open_sheet-requires c = record {
  n_bound = omega (arith, c.requires.few.0.high);
  n_in_bounds = c.requires.n_in_bounds;
  n_in_bounds_2 = c.requires.n_in_bounds_2.0;
  prepared = c.requires.n_in_bounds_2.1;
}

pub first-c-requires : goal.first-c-requires
first-c-requires c =
    record { le_n = (c.requires.few.0.low, c.requires.few.0.high); lowest = c.requires.few.1 }

pub loop-g-init : goal.loop-g-init
loop-g-init c = let w : c.args.set < 2 ^ 64 = omega arith in (
  turn_first w
      c.first-c.ensures,
  past_same _ _,
  c.open_sheet.ensures.mirrored,
)

pub block_of-k-requires : goal.block_of-k-requires
block_of-k-requires c = let l = c.loop-g in
    record {
      few = c.requires.few.0;
      candidate = l.invariant.0.before.candidate;
      b_le_n = l.invariant.0.known;
    }

pub returns-then-end-k : goal.returns-then-end-k
returns-then-end-k c =
    let w : c.args.set < 2 ^ 64 = omega arith in
    let l = c.loop-g in record {
      searched = record {
        absent = at_end w c.args.end l.invariant.0.known l.invariant.0.before
            (omega (arith, c.if-end-k.true, c.block_of-k.ensures.0));
      };
      past = past_then c.open_sheet.ensures.past l.invariant.1;
    }

pub overflow_add-past : goal.overflow_add-past
overflow_add-past c = omega (arith, c.block_of-k.ensures.2)

pub look-requires : goal.look-requires
look-requires c =
    let l = c.loop-g in
    let k = c.block_of-k.ensures in record {
      few = (
        c.requires.few.0,
        l.invariant.0.known,
        l.invariant.0.before.candidate,
        ap₂ ◌+◌ k.0 k.1,
        c.requires.few.2,
      );
      formed = c.requires.formed;
      n_in_bounds = omega (
        arith,
        c.requires.n_in_bounds,
        c.open_sheet.ensures.past.long,
        l.invariant.1.long,
      );
      tabled = c.requires.tabled;
      mirrored = l.invariant.2;
    }

pub successor-requires : goal.successor-requires
successor-requires c = let l = c.loop-g in record {
  le_n = (
    c.requires.few.0.low,
    c.requires.few.0.high,
    l.invariant.0.known,
  );
  lowest = c.requires.few.1;
  candidate = l.invariant.0.before.candidate;
}

pub returns-in_err-s : goal.returns-in_err-s
returns-in_err-s c =
    let w : c.args.set < 2 ^ 64 = omega arith in
    let v = c.look.ensures.looked in
    let l = c.loop-g in record {
      searched = rw c.from_residual.ensures (record {
        absent = over w c.args.end l.invariant.0.before (v.0.barren c.if-look.true)
            c.in_err-s.ensures;
      });
      past = past_then (past_then c.open_sheet.ensures.past l.invariant.1) v.1;
    }

pub loop-g-smaller-then-look : goal.loop-g-smaller-then-look
loop-g-smaller-then-look c =
    omega (
      arith,
      c.requires.few.0.high,
      next_falls c.requires.few.0.high
          c.loop-g.invariant.0 c.in_ok-s.ensures,
    )

pub loop-g-preserved-then-look : goal.loop-g-preserved-then-look
loop-g-preserved-then-look c =
    let w : c.args.set < 2 ^ 64 = omega arith in
    let v = c.look.ensures in
    let l = c.loop-g in (
      turn_next w l.invariant.0 v.looked.0
          c.if-look.true c.in_ok-s.ensures,
      past_then l.invariant.1 v.looked.1,
      v.mirrored_2,
    )

pub returns-then-b-n : goal.returns-then-b-n
returns-then-b-n c =
    let w : c.args.set < 2 ^ 64 = omega arith in
    let v = c.look.ensures.looked in
    let l = c.loop-g in
    let k = c.block_of-k in record {
      searched = hit_of w l.invariant.0 v.0 c.if-look.false
          c.if-b-n.true (omega (arith, k.ensures.0))
          (omega (
            arith,
            c.if-end-k.false,
          ));
      past = (past_then
          (past_then c.open_sheet.ensures.past
          c.loop-g.invariant.1) c.look.ensures.looked.1);
    }

pub overflow_add-b : goal.overflow_add-b
overflow_add-b c = omega (
  arith,
  c.loop-g.invariant.0.known,
  c.requires.few.0.high,
)

pub loop-g-smaller : goal.loop-g-smaller
loop-g-smaller c = omega (
  arith,
  c.loop-g.invariant.0.known,
  c.if-b-n.false,
)

pub loop-g-preserved : goal.loop-g-preserved
loop-g-preserved c = let l = c.loop-g in (
  turn_more l.invariant.0 c.if-b-n.false,
  past_then l.invariant.1
      c.look.ensures.looked.1,
  c.look.ensures.mirrored_2,
)
