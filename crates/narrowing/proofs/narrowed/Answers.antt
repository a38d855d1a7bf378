-- The token's ends become its column.
use mathlib.Core.Path.{refl, ap}
use native.Mathlib.Omega.{arith}
use Rattle.column_ranges.specs.Ranges.{columns}
use Rattle.column_ranges.proofs.Counting.{range_read, ended_at}
use Rattle.narrowing.proofs.Walking.{narrows}
use Rattle.narrowing.proofs.narrowed.Goals as goal

pub bounds-r-t : goal.bounds-r-t
bounds-r-t c = omega (arith, c.requires.spread.0.few, c.requires.spread.1)

pub overflow_cast-x : goal.overflow_cast-x
overflow_cast-x c =
    let e = ended_at c.requires.spread.0 c.args.t c.requires.spread.1 in
    omega (
      arith,
      c.requires.c_bound,
      ap columns (range_read c.args.r c.args.t c.requires.spread.1),
      e.least,
      e.most,
      e.ordered,
    )

pub overflow_add-x : goal.overflow_add-x
overflow_add-x c =
    let e = ended_at c.requires.spread.0 c.args.t c.requires.spread.1 in
    record {
      fits = omega (
        arith,
        c.requires.c_bound,
        ap columns
            (range_read c.args.r c.args.t c.requires.spread.1),
        e.least,
        e.most,
        e.ordered,
      );
    }

pub returns : goal.returns
returns c =
    narrows c.args.r c.args.t c.args.c c.requires.spread.0 c.requires.spread.1 c.requires.c_bound
    refl
