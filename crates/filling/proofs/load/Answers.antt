use mathlib.Core.Path.{ap, sym}
use Prim.Native.Nat.{ℕ, ◌+◌, ◌*◌}
use lib.ListN.{get_or}
use native.Mathlib.Omega.{arith}
use Rattle.spans.proofs.Places.{pair_at_below}
use Rattle.filling.proofs.ClosingLaws.{loaded}
use Rattle.filling.proofs.load.Goals as goal

-- src/lib.rt:94:14
pub overflow_mul-at : goal.overflow_mul-at
overflow_mul-at c = omega (
  arith,
  c.requires.room.0.enough,
  c.pair_at-at.ensures,
  pair_at_below
      c.args.n c.args.start c.args.len c.requires.room.0.fits,
  c.well_formed.0.1,
)

-- src/lib.rt:96:14
pub offset_bounds-words-at : goal.offset_bounds-words-at
offset_bounds-words-at c = omega (
  arith,
  c.requires.room.0.enough,
  c.pair_at-at.ensures,
  pair_at_below c.args.n c.args.start
      c.args.len c.requires.room.0.fits,
  c.well_formed.0.1,
)

-- src/lib.rt:96:14
pub bounds-words-at : goal.bounds-words-at
bounds-words-at c = omega (
  arith,
  c.requires.room.0.enough,
  c.pair_at-at.ensures,
  pair_at_below
      c.args.n c.args.start c.args.len c.requires.room.0.fits,
)

-- src/lib.rt:97:20
pub overflow_add-p : goal.overflow_add-p
overflow_add-p c = omega (
  arith,
  c.requires.room.0.enough,
  c.pair_at-at.ensures,
  pair_at_below
      c.args.n c.args.start c.args.len c.requires.room.0.fits,
  c.well_formed.0.1,
)

-- src/lib.rt:97:14
pub offset_bounds-words-at-2 : goal.offset_bounds-words-at-2
offset_bounds-words-at-2 c = omega (
  arith,
  c.requires.room.0.enough,
  c.pair_at-at.ensures,
  pair_at_below c.args.n c.args.start
      c.args.len c.requires.room.0.fits,
  c.well_formed.0.1,
)

-- src/lib.rt:97:14
pub bounds-words-at-2 : goal.bounds-words-at-2
bounds-words-at-2 c = omega (
  arith,
  c.requires.room.0.enough,
  c.pair_at-at.ensures,
  pair_at_below
      c.args.n c.args.start c.args.len c.requires.room.0.fits,
)

-- src/lib.rt:89:1
pub returns : goal.returns
returns c =
    let a = c.args in
    let e = c.pair_at-at.ensures in
    loaded a.words.now a.n a.start a.len a.rows.now a.cols.now
    c.put.new.rows c.put.new.cols
    (record {
      one = get_or a.words.now (2 * c.pair_at-at.result) 0;
      two = get_or
          a.words.now (2 * c.pair_at-at.result + 1) 0;
    }) c.requires.room.0.few
    c.requires.room.0.fits c.requires.room.1
    (ap (λ (x : ℕ). get_or a.words.now (2 * x) 0) (sym e))
    (ap (λ (x : ℕ). get_or a.words.now (2 * x + 1) 0) (sym e))
    c.put.ensures.put_row c.put.ensures.put_pair c.requires.mirrors
