use mathlib.Core.Path.{refl, ◌∙◌}
use Prim.Native.Nat.{◌<◌}
use native.Mathlib.Omega.{arith}
use borrow.Author.Rules.{rules}
use Rattle.sets.proofs.Says.{true_not_false}
use Rattle.spans.proofs.ChangeLaws.{past_same, past_then}
use Rattle.candidates.proofs.Windows.{cells_size}
use Rattle.pruning.proofs.RefutingLaws.{within_none, within_more, within_all}
use Rattle.pruning.proofs.WordLaws.{standing_back, standing_moved, standing_unmoved}
use Rattle.pruning.proofs.+try_positions.Goals as goal

pub returns-then-i-n : goal.returns-then-i-n
returns-then-i-n t c = record {
  positions_searched = record {
    out = λ e. absurd (true_not_false e);
    stays = λ e. absurd (true_not_false e);
    past = past_same _ _;
  };
  mirrored_2 = c.requires.mirrored;
}

pub loop-k-init : goal.loop-k-init
loop-k-init t c = (
  past_same _ _,
  c.requires.positions_filled,
  (λ s. within_none (cells_size c.args.c 0 c.args.n)
      (omega (arith, c.if-i-n.false, c.requires.n_bound.1))),
  c.requires.mirrored,
  refl,
)

pub moved-m-requires : goal.moved-m-requires
moved-m-requires t c = record {
  n_bound = (
    c.requires.n_bound.0,
    omega (arith, c.if-i-n.false, c.requires.n_bound.1),
    omega (arith, c.loop-k-test.true),
  );
  low_steps = c.requires.n_bound.2;
}

pub try_position-requires : goal.try_position-requires
try_position-requires t c =
    let l = c.loop-k in
    let m = c.moved-m.ensures in record {
      n_bound = (
        c.requires.n_bound.0,
        omega (arith, c.if-i-n.false, c.requires.n_bound.1),
        m.1,
        c.requires.n_bound.3,
      );
      formed = c.requires.formed;
      n_in_bounds = omega (arith, l.invariant.0.long, c.requires.n_in_bounds);
      positions_filled = standing_moved m.0 l.invariant.1;
      mirrored = l.invariant.3;
    }

pub loop-k-smaller-then-try_position : goal.loop-k-smaller-then-try_position
loop-k-smaller-then-try_position t c = omega (arith, c.loop-k-test.true)

pub loop-k-preserved-then-try_position : goal.loop-k-preserved-then-try_position
loop-k-preserved-then-try_position t c =
    let l = c.loop-k in
    let m = c.moved-m.ensures.0 in
    let r = c.try_position.ensures.position_tried in (
      past_then l.invariant.0 r.past,
      standing_unmoved m (r.stays c.if-try_position.true),
      (λ s. within_more (cells_size c.args.c 0 c.args.n)
          (omega (arith, c.if-i-n.false, c.requires.n_bound.1)) m (r.out c.if-try_position.true s)
          (l.invariant.2 s)),
      c.try_position.ensures.mirrored_2,
      search rules,
    )

pub overflow_add-i : goal.overflow_add-i
overflow_add-i t c = omega (arith, c.requires.n_bound)

pub try_positions-requires : goal.try_positions-requires
try_positions-requires t c =
    let l = c.loop-k in
    let m = c.moved-m.ensures in
    let r = c.try_position.ensures.position_tried in
    let h : c.args.i < c.args.n = omega (arith, c.if-i-n.false, c.requires.n_bound.1) in (
      omega (arith, h),
      (
        (c.requires.n_bound.0, omega arith, m.1, omega (arith, c.requires.n_bound.3)),
        (
          c.requires.formed,
          (
            omega (arith, r.past.long, l.invariant.0.long, c.requires.n_in_bounds),
            (r.on c.if-try_position.false, c.try_position.ensures.mirrored_2),
          ),
        ),
      ),
    )

pub shape_of-words-then-try_positions : goal.shape_of-words-then-try_positions
shape_of-words-then-try_positions t c =
    c.try_positions.ensures.positions_searched.past.long
    ∙ c.try_position.ensures.position_tried.past.long
    ∙ c.loop-k.invariant.0.long

pub returns-then-try_positions : goal.returns-then-try_positions
returns-then-try_positions t c = record {
  positions_searched = record {
    out = λ e. absurd (true_not_false e);
    stays = λ e. absurd (true_not_false e);
    past = past_then c.loop-k.invariant.0
        (past_then c.try_position.ensures.position_tried.past
        c.try_positions.ensures.positions_searched.past);
  };
  mirrored_2 = c.try_positions.ensures.mirrored_2;
}

pub loop-k-smaller : goal.loop-k-smaller
loop-k-smaller t c = omega (arith, c.loop-k-test.true)

pub loop-k-preserved : goal.loop-k-preserved
loop-k-preserved t c =
    let l = c.loop-k in
    let m = c.moved-m in
    let r = c.try_position.ensures.position_tried in
    let q = c.try_positions.ensures.positions_searched in
    let h : c.args.i < c.args.n = omega (arith, c.if-i-n.false, c.requires.n_bound.1) in
    let n = c.args.n in (
      past_then l.invariant.0 (past_then r.past q.past),
      standing_unmoved m.ensures.0
          (standing_back h (cells_size m.result 0 n) (q.stays c.if-try_positions.false)),
      (λ s. within_more (cells_size c.args.c 0 n) h m.ensures.0 (q.out c.if-try_positions.false s)
          (l.invariant.2 s)),
      c.try_positions.ensures.mirrored_2,
      search rules,
    )

pub shape_of-words : goal.shape_of-words
shape_of-words t c = c.loop-k.invariant.0.long

pub shape_of-cuts : goal.shape_of-cuts
shape_of-cuts t c = c.loop-k.invariant.4

pub returns : goal.returns
returns t c =
    let l = c.loop-k in record {
      positions_searched = record {
        out = λ e s. within_all (cells_size c.args.c 0 c.args.n)
            (omega (arith, c.if-i-n.false, c.requires.n_bound.1))
            (omega (arith, c.loop-k-test.false)) (l.invariant.2 s);
        stays = λ e. l.invariant.1;
        past = l.invariant.0;
      };
      mirrored_2 = l.invariant.3;
    }
