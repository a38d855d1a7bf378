-- Read off the sheet of the whole sentence.
use Rattle.candidates.specs.Arrays.{cells}
use Rattle.candidates.proofs.Windows.{cells_size}
use Rattle.pruning.proofs.Trying.{two_read}
use native.Mathlib.Omega.{arith}
use Rattle.pruning.proofs.has_two.Goals as goal

pub begin-requires : goal.begin-requires
begin-requires c = record {
  n_bound = (c.requires.n_bound.0, omega arith, c.requires.n_bound.1);
  formed = c.requires.formed;
  n_in_bounds = c.requires.n_in_bounds;
  tabled = c.requires.tabled;
  mirrored = c.requires.mirrored;
}

pub returns : goal.returns
returns c =
    let a = c.args in
    let p = c.begin.ensures in record {
      says = (
        two_read (cells a.c 0 a.n) (cells_size a.c 0 a.n) p.terminals_filled
            c.in_second.ensures,
        p.past,
      );
      mirrored_2 = p.mirrored_2;
    }
