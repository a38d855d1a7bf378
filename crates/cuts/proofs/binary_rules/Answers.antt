use native.Mathlib.Omega.{arith}
use Rattle.cuts.proofs.binary_rules.Goals as goal

pub places_from-low-requires : goal.places_from-low-requires
places_from-low-requires c = (c.requires, omega arith)

pub places_from-high-requires : goal.places_from-high-requires
places_from-high-requires c = (c.requires, omega arith)

pub lefts_at-requires : goal.lefts_at-requires
lefts_at-requires c = (c.requires, omega arith, c.places_from-low.ensures)

pub lefts_at-requires-2 : goal.lefts_at-requires-2
lefts_at-requires-2 c =
    (c.requires, omega arith, c.places_from-high.ensures)

pub returns : goal.returns
returns c =
    record {
      low = c.places_from-low.ensures;
      high = c.places_from-high.ensures;
      lows = c.lefts_at.ensures;
      highs = c.lefts_at-2.ensures;
    }
