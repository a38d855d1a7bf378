-- The pairs of single tokens first, then the rest.
use native.Mathlib.Omega.{arith}
use Rattle.spans.proofs.ChangeLaws.{past_then}
use Rattle.candidates.proofs.Spelling.{low_steps}
use Rattle.pruning.proofs.TableLaws.{small_cells}
use Rattle.pruning.proofs.Trying.{laid_ready, poised_start, charted_past}
use Rattle.pruning.proofs.begin.Goals as goal

pub put_leaves-requires : goal.put_leaves-requires
put_leaves-requires c = record {
  n_bound = (c.requires.n_bound.0, small_cells c.requires.n_bound.1 c.requires.n_bound.2);
  n_in_bounds = c.requires.n_in_bounds;
  table_len = c.requires.tabled.long;
  mirrored = c.requires.mirrored;
}

pub draft-d-requires : goal.draft-d-requires
draft-d-requires c = (c.requires.n_bound.0, low_steps c.requires.n_bound.2)

pub refill-requires : goal.refill-requires
refill-requires c =
    let d = c.draft-d in
    let e = d.ensures in
    let l = c.put_leaves.ensures.leaves_put in record {
      count_bound = (
        omega (arith, e.1, c.requires.n_bound.0),
        omega
            (arith, e.1, e.2, c.requires.n_bound.1),
      );
      count_in_bounds = rw e.1 (omega (arith, c.requires.n_in_bounds, l.tokens.past.long));
      formed = c.requires.formed;
      ready = laid_ready d.result c.requires.n_bound.1 c.requires.n_bound.2 e.0 e.1
          e.2 c.requires.tabled l;
      mirrored = rw e.1
          c.put_leaves.ensures.mirrored_2;
    }

pub returns : goal.returns
returns c =
    let d = c.draft-d in
    let e = d.ensures in
    let l = c.put_leaves.ensures.leaves_put in
    let f = c.refill.ensures.charted in record {
      terminals_filled =
          poised_start d.result c.requires.n_bound.1 e.0 e.1 e.2 c.requires.tabled l f;
      past = past_then l.tokens.past (charted_past d.result e.1 f);
      mirrored_2 = rw e.1 at
          c.refill.ensures.mirrored_2;
    }
