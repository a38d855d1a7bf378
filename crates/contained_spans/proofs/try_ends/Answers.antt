-- The empty word on the left, then on the right.
use native.Mathlib.Omega.{arith}
use Rattle.spans.proofs.Places.{pair_at_below}
use Rattle.contained_spans.proofs.EndLaws.{sides_long, sides_few, ends_spread}
use Rattle.contained_spans.proofs.try_ends.Goals as goal

pub try_sides-none-requires : goal.try_sides-none-requires
try_sides-none-requires c =
    let w = c.requires.room.0 in
    let v = c.requires.room.1 in
    let f = pair_at_below c.args.n c.args.start c.args.len w.fits in
    let e = c.pair_at-p.ensures in record {
      b_bound = (
        c.requires.b_bound.0,
        c.requires.b_bound.1,
        omega (arith, e, f, w.enough),
        omega (arith, e, f, w.enough),
      );
      p_in_bounds = (omega (arith, e, f, v.enough), omega (arith, e, f, v.enough));
    }

pub try_sides-all-requires : goal.try_sides-all-requires
try_sides-all-requires c =
    let w = c.requires.room.0 in
    let v = c.requires.room.1 in
    let f = pair_at_below c.args.n c.args.start c.args.len w.fits in
    let e = c.pair_at-p.ensures in record {
      b_bound = (
        c.requires.b_bound.0,
        c.requires.b_bound.1,
        omega (arith, e, f, w.enough),
        omega (arith, e, f, w.enough),
      );
      p_in_bounds = (
        omega (arith, e, f, v.enough, sides_long c.try_sides-none.ensures),
        omega (
          arith,
          e,
          f,
          v.enough,
          sides_long
              c.try_sides-none.ensures,
        ),
      );
    }

pub plus-requires : goal.plus-requires
plus-requires c = (
  sides_few c.try_sides-none.ensures,
  sides_few
      c.try_sides-all.ensures,
)

pub returns : goal.returns
returns c =
    ends_spread c.pair_at-p.ensures c.try_sides-none.ensures
    c.try_sides-all.ensures c.plus.ensures
