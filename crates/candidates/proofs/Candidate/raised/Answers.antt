-- `candidates::Candidate::raised` meets its contract: the next cell at i and the least cells behind
-- it, or the cell at i is the last.
use native.Mathlib.Omega.{arith}
use Rattle.candidates.proofs.Windows.{room_at, fits_at, last_at, raised_at}
use Rattle.candidates.proofs.Candidate.raised.Goals as goal

pub advance-requires : goal.advance-requires
advance-requires c =
    let em = c.largest_step-m.ensures in
    let ep = c.column_before-p.ensures in record {
      room = room_at c.args.n c.args.self c.args.i _ _ em ep c.requires.le_n.0 c.requires.le_n.1;
      fits = fits_at c.args.n c.args.self c.args.i _ _ em ep _ c.cell-d.ensures _
          c.requires.fits;
    }

pub returns-in_err-e : goal.returns-in_err-e
returns-in_err-e c = rw c.from_residual.ensures
    (last_at c.args.n c.args.self c.args.i _ _
    c.largest_step-m.ensures
    c.column_before-p.ensures _ c.cell-d.ensures _ c.in_err-e.ensures)

pub filled-to-requires : goal.filled-to-requires
filled-to-requires c =
    record {
      le_n = (c.requires.le_n.0, c.requires.le_n.1, omega (arith, c.requires.le_n.2));
      lowest = c.requires.lowest;
    }

pub returns : goal.returns
returns c =
    raised_at c.args.n c.args.self c.args.i _ _
    c.largest_step-m.ensures
    c.column_before-p.ensures _ c.cell-d.ensures _ _ _ _ c.in_ok-e.ensures
    c.with-c.ensures c.filled-to.ensures
