-- Where all positions are refuted, one more fill poises the words again.
use native.Mathlib.Omega.{arith}
use Rattle.sets.proofs.Says.{true_not_false}
use Rattle.candidates.proofs.Windows.{cells_size}
use Rattle.pruning.proofs.Trying.{ready_again, spent}
use Rattle.pruning.proofs.positions.Goals as goal

pub try_positions-requires : goal.try_positions-requires
try_positions-requires c = c.requires

pub returns-then-try_positions : goal.returns-then-try_positions
returns-then-try_positions c = record {
  all_positions_searched = record {
    out = λ e. absurd (true_not_false e);
    stays = λ e. absurd (true_not_false e);
    past = c.try_positions.ensures.positions_searched.past;
  };
  mirrored_2 = c.try_positions.ensures.mirrored_2;
}

pub no_two-requires : goal.no_two-requires
no_two-requires c =
    let a = c.args in
    let d = c.draft-d in
    let e = d.ensures in
    let q = c.try_positions.ensures.positions_searched in record {
      count_bound = (
        omega (arith, e.1, c.requires.n_bound.0),
        omega
            (arith, e.1, e.2, c.requires.n_bound.1),
      );
      count_in_bounds = rw e.1 (omega (arith, q.past.long, c.requires.n_in_bounds));
      formed = c.requires.formed;
      ready = ready_again d.result c.requires.n_bound.1 (cells_size a.c 0 a.n)
          e.0 e.1 e.2 (q.stays c.if-try_positions.false);
      mirrored = rw e.1
          c.try_positions.ensures.mirrored_2;
    }

pub returns : goal.returns
returns c =
    let d = c.draft-d in
    let e = d.ensures in record {
      all_positions_searched = spent d.result c.if-try_positions.false e.0 e.1 e.2
          c.try_positions.ensures.positions_searched
          c.no_two.ensures.settles;
      mirrored_2 = rw e.1 at
          c.no_two.ensures.mirrored_2;
    }
