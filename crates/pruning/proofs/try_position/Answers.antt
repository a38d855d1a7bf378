-- A position that does not rise or is no better than an earlier one is refuted by itself, another
-- one by the span sheet.
use native.Mathlib.Omega.{arith}
use Rattle.candidates.proofs.Windows.{cells_size}
use Rattle.pruning.proofs.RefutingLaws.{refuted_falling, refuted_earlier_twin}
use Rattle.pruning.proofs.Trying.{tried_out, tried_settled, ready_draft}
use Rattle.pruning.proofs.try_position.Goals as goal

pub returns-then-not-rises : goal.returns-then-not-rises
returns-then-not-rises c =
    let a = c.args in record {
      position_tried = tried_out (λ s. refuted_falling (cells_size a.c 0 a.n) c.requires.n_bound.1
          (c.rises.ensures c.if-not-rises.true)) c.requires.positions_filled;
      mirrored_2 = c.requires.mirrored;
    }

pub returns-then-earlier_twin : goal.returns-then-earlier_twin
returns-then-earlier_twin c =
    let a = c.args in record {
      position_tried =
          tried_out (λ s. refuted_earlier_twin (cells_size a.c 0 a.n) c.requires.n_bound.1
          (c.earlier_twin.ensures c.if-earlier_twin.true)) c.requires.positions_filled;
      mirrored_2 = c.requires.mirrored;
    }

pub no_two-requires : goal.no_two-requires
no_two-requires c =
    let a = c.args in
    let d = c.draft-d in
    let e = d.ensures in record {
      count_bound = (
        omega (arith, e.1, c.requires.n_bound.0),
        omega
            (arith, e.1, e.2, c.requires.n_bound.1),
      );
      count_in_bounds = rw e.1 c.requires.n_in_bounds;
      formed = c.requires.formed;
      ready = ready_draft d.result c.requires.n_bound.1 (cells_size a.c 0 a.n) e.0 e.1
          e.2 c.requires.positions_filled;
      mirrored = rw e.1 c.requires.mirrored;
    }

pub returns : goal.returns
returns c =
    let a = c.args in
    let d = c.draft-d in
    let e = d.ensures in record {
      position_tried =
          tried_settled d.result c.requires.n_bound.1 (cells_size a.c 0 a.n) e.0 e.1
          e.2
          c.requires.positions_filled c.no_two.ensures.settles;
      mirrored_2 = rw e.1 at
          c.no_two.ensures.mirrored_2;
    }
