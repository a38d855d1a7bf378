use mathlib.Core.Path.{◌≡◌}
use Prim.Native.Nat.{◌≤◌}
use native.Mathlib.Omega.{arith}
use Rattle.spans.proofs.ChangeLaws.{past_same, past_then}
use Rattle.sweeping.proofs.Turns.{none_yet, exhausted, longer, passed_over}
use Rattle.sweeping.proofs.Looking.{turn_first, turn_next, turn_more, ruled_out, next_falls}
use Rattle.sweeping.proofs.Looking.{pairs_mono, past_turn}
use Rattle.sweeping.proofs.search.Goals as goal

pub loop-n-init : goal.loop-n-init
loop-n-init c = (omega arith, none_yet, past_same _ _, c.requires.k_in_bounds_2.1)

pub has-requires : goal.has-requires
has-requires c = omega (arith, c.requires.le_k.1)

pub loop-n-preserved-then-not-has : goal.loop-n-preserved-then-not-has
loop-n-preserved-then-not-has c =
    let v = c.loop-n.invariant in (
      omega arith,
      longer v.1 (passed_over c.requires.admits (omega arith)
          (omega (arith, c.requires.le_k.1)) (c.has.ensures.isnt c.if-not-has.true)),
      v.2,
      v.3,
    )

pub open_sheet-requires : goal.open_sheet-requires
open_sheet-requires c =
    let m = pairs_mono c.loop-n.n c.args.k (omega arith) in record {
      n_bound = omega (arith, c.requires.le_k.1);
      n_in_bounds = omega (arith, c.requires.k_in_bounds, c.loop-n.invariant.2.long, m);
      n_in_bounds_2 = omega (arith, c.requires.k_in_bounds_2.0);
      prepared = c.loop-n.invariant.3;
    }

pub first-c-requires : goal.first-c-requires
first-c-requires c = record {
  le_n = (omega arith, omega (arith, c.requires.le_k.1));
  lowest = c.requires.lowest;
}

pub loop-c-init : goal.loop-c-init
loop-c-init c = (turn_first c.first-c.ensures, past_same _ _, c.open_sheet.ensures.mirrored)

pub look-requires : goal.look-requires
look-requires c =
    let t = c.loop-c.invariant.0 in
    let m = pairs_mono c.loop-n.n c.args.k (omega arith) in record {
      n_bound = (omega (arith, c.requires.le_k.1), t.known, t.before.candidate);
      formed = c.requires.formed;
      n_in_bounds = omega (
        arith,
        c.requires.k_in_bounds,
        c.loop-n.invariant.2.long,
        c.open_sheet.ensures.past.long,
        c.loop-c.invariant.1.long,
        m,
      );
      tabled = c.requires.tabled;
      mirrored = c.loop-c.invariant.2;
    }

pub successor-requires : goal.successor-requires
successor-requires c = record {
  le_n = (omega arith, omega (arith, c.requires.le_k.1), c.loop-c.invariant.0.known);
  lowest = c.requires.lowest;
  candidate = c.loop-c.invariant.0.before.candidate;
}

pub loop-c-smaller-then-look : goal.loop-c-smaller-then-look
loop-c-smaller-then-look c =
    let few : c.loop-n.n ≤ 7 = omega (arith, c.requires.le_k.1) in
    omega (arith, few, next_falls few c.loop-c.invariant.0 c.in-Some.ensures)

pub loop-c-preserved-then-look : goal.loop-c-preserved-then-look
loop-c-preserved-then-look c = (
  turn_next c.loop-c.invariant.0 c.look.ensures.looked.0 c.if-look.true c.in-Some.ensures,
  past_then c.loop-c.invariant.1 c.look.ensures.looked.1,
  c.look.ensures.mirrored_2,
)

pub overflow_add-b : goal.overflow_add-b
overflow_add-b c = omega (arith, c.loop-c.invariant.0.known, c.requires.le_k.1)

pub loop-c-smaller : goal.loop-c-smaller
loop-c-smaller c = omega (arith, c.loop-c.invariant.0.known, c.if-b-n.false)

pub loop-c-preserved : goal.loop-c-preserved
loop-c-preserved c = (
  turn_more c.loop-c.invariant.0 (λ e. omega (arith, c.if-b-n.false, e)),
  past_then c.loop-c.invariant.1 c.look.ensures.looked.1,
  c.look.ensures.mirrored_2,
)

pub returns-then-b-n : goal.returns-then-b-n
returns-then-b-n c =
    let v = c.loop-n.invariant in record {
      searched = record {
        low = omega arith;
        high = omega arith;
        before = c.loop-c.invariant.0.before;
        two = c.look.ensures.looked.0.two c.if-look.false (omega (arith, c.if-b-n.true));
        shorter = v.1;
      };
      past = past_turn (omega arith) v.2 c.open_sheet.ensures.past c.loop-c.invariant.1
          c.look.ensures.looked.1;
    }

-- a length is done
pub loop-n-preserved : goal.loop-n-preserved
loop-n-preserved c =
    let v = c.loop-n.invariant in
    let t = c.loop-c.invariant.0 in (
      omega arith,
      longer v.1 (exhausted t.before (ruled_out t c.look.ensures.looked.0 c.if-look.true)
          c.in_default.ensures),
      past_turn (omega arith) v.2 c.open_sheet.ensures.past c.loop-c.invariant.1
          c.look.ensures.looked.1,
      c.look.ensures.mirrored_2.prepared,
    )

-- after the last length
pub returns-then-not-has : goal.returns-then-not-has
returns-then-not-has c =
    let v = c.loop-n.invariant in
    let e : c.loop-n.n ≡ c.args.k = omega arith in record {
      searched = rw (← e) (longer v.1 (passed_over c.requires.admits (omega arith)
          (omega (arith, c.requires.le_k.1)) (c.has.ensures.isnt c.if-not-has.true)));
      past = v.2;
    }

pub returns-in_default : goal.returns-in_default
returns-in_default c =
    let v = c.loop-n.invariant in
    let t = c.loop-c.invariant.0 in
    let e : c.loop-n.n ≡ c.args.k = omega arith in record {
      searched = rw (← e) (longer v.1 (exhausted t.before
          (ruled_out t c.look.ensures.looked.0 c.if-look.true) c.in_default.ensures));
      past = past_turn (omega arith) v.2 c.open_sheet.ensures.past c.loop-c.invariant.1
          c.look.ensures.looked.1;
    }

pub returns : goal.returns
returns c = absurd (omega (arith, c.loop-n-test.false, c.requires.le_k.0))
