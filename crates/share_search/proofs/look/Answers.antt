-- By the numbers of the block, by the candidate itself where all cells are known, or by twins whose
-- numbers are not below the start.
use native.Mathlib.Omega.{arith}
use Prim.Native.Nat.{◌^◌, ◌<◌}
use Rattle.spans.proofs.ChangeLaws.{past_same}
use Rattle.share_search.proofs.Looking.{looked_early, looked_across, looked_twin}
use Rattle.share_search.proofs.Looking.{looked_whole}
use Rattle.share_search.proofs.look.Goals as goal

pub returns-then-past-start : goal.returns-then-past-start
returns-then-past-start c =
    let w : c.args.set < 2 ^ 64 = omega arith in record {
      looked = (
        looked_early w c.requires.few.1 (omega (arith, c.if-past-start.true, c.requires.few.3)),
        past_same
            _ _,
      );
      mirrored_2 = c.requires.mirrored;
    }

pub has_two-requires : goal.has_two-requires
has_two-requires c = record {
  n_bound = (c.requires.few.0.high, c.requires.few.2);
  formed = c.requires.formed;
  n_in_bounds = c.requires.n_in_bounds;
  tabled = c.requires.tabled;
  mirrored = c.requires.mirrored;
}

pub shape_of-words-then-b-n : goal.shape_of-words-then-b-n
shape_of-words-then-b-n c = c.has_two.ensures.says.1.long

pub returns-then-b-n : goal.returns-then-b-n
returns-then-b-n c =
    let w : c.args.set < 2 ^ 64 = omega arith in
    let q = c.has_two.ensures in record {
      looked = (
        looked_whole w c.requires.few.1
            c.if-b-n.true c.requires.few.2
            (omega (
              arith,
              c.if-past-start.false,
              c.requires.few.3,
            )) q.says.0,
        q.says.1,
      );
      mirrored_2 = q.mirrored_2;
    }

pub returns-then-end-past : goal.returns-then-end-past
returns-then-end-past c =
    let w : c.args.set < 2 ^ 64 = omega arith in
    record {
      looked = (looked_across w c.requires.few.1 c.if-b-n.false, past_same _ _);
      mirrored_2 = c.requires.mirrored;
    }

pub held-requires : goal.held-requires
held-requires c =
    record { few = c.requires.few.0; candidate = c.requires.few.2; b_le_n = c.requires.few.1 }

pub returns-in_default : goal.returns-in_default
returns-in_default c =
    let w : c.args.set < 2 ^ 64 = omega arith in
    record {
      looked = (looked_across w c.requires.few.1 c.if-b-n.false, past_same _ _);
      mirrored_2 = c.requires.mirrored;
    }

pub outdone-requires : goal.outdone-requires
outdone-requires c = record {
  n_bound = (
    c.requires.few.0.high,
    c.requires.few.1,
    c.requires.few.2,
    c.in-Some.ensures.0,
    c.requires.few.4,
  );
  formed = c.requires.formed;
  n_in_bounds = c.requires.n_in_bounds;
  tabled = c.requires.tabled;
  mirrored = c.requires.mirrored;
}

pub shape_of-words : goal.shape_of-words
shape_of-words c = c.outdone.ensures.replaceable.1.long

pub returns : goal.returns
returns c =
    let w : c.args.set < 2 ^ 64 = omega arith in
    let q = c.outdone.ensures in record {
      looked = (
        looked_twin w c.requires.few.1
            c.if-b-n.false c.in-Some.ensures.0 c.in-Some.ensures.1 q.replaceable.0,
        q.replaceable.1,
      );
      mirrored_2 = q.mirrored_2;
    }
