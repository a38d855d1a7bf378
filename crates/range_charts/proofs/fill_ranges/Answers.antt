use native.Mathlib.Omega.{arith}
use Rattle.range_charts.proofs.Solving.{advanced_all, from_none}
use Rattle.range_charts.proofs.fill_ranges.Goals as goal

pub fill_between-requires : goal.fill_between-requires
fill_between-requires c = record {
  count_fits = (c.requires.count_fits, omega arith, omega arith);
  count_in_bounds = c.requires.count_in_bounds;
  formed = c.requires.formed.0;
  behind = record { beside = c.requires.formed.1; solved = from_none _ _ _ _ };
}

pub returns : goal.returns
returns c = record {
  solves = advanced_all c.fill_between.ensures.advances;
  beside = c.fill_between.ensures.beside;
}
