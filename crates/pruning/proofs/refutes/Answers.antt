-- No cell is held, and all terminals are kept.
use native.Mathlib.Omega.{arith}
use Rattle.pruning.proofs.RefutingLaws.{renames_all}
use Rattle.pruning.proofs.refutes.Goals as goal

pub twinned-requires : goal.twinned-requires
twinned-requires c = record {
  n_bound = (
    c.requires.n_bound.0,
    c.requires.n_bound.1,
    c.requires.n_bound.2,
    omega arith,
    renames_all _
        _,
  );
  formed = c.requires.formed;
  n_in_bounds = c.requires.n_in_bounds;
  tabled = c.requires.tabled;
  mirrored = c.requires.mirrored;
}

pub returns : goal.returns
returns c = c.twinned.ensures
