-- `survey::inherited` meets its contract.
use native.Mathlib.Omega.{arith}
use Rattle.survey.proofs.Sources.{loose_three, loose_two, loose_less}
use Rattle.survey.proofs.inherited.Goals as goal

pub at_most-single-requires : goal.at_most-single-requires
at_most-single-requires c = (c.requires.0, c.requires.1, c.requires.2, loose_three)

pub at_most-offside-requires : goal.at_most-offside-requires
at_most-offside-requires c = (c.requires.0, c.requires.1, c.requires.2, loose_two)

pub at_most-offalign-requires : goal.at_most-offalign-requires
at_most-offalign-requires c =
    (c.requires.0, c.requires.1, c.requires.2, loose_less 1 (omega arith) c.at_most-offside.ensures)

pub at_most-unmarked-requires : goal.at_most-unmarked-requires
at_most-unmarked-requires c =
    (c.requires.0, c.requires.1, c.requires.2, loose_less 0 (omega arith) c.at_most-offside.ensures)

pub returns : goal.returns
returns c =
    record {
      unmarked = c.at_most-unmarked.ensures;
      offalign = c.at_most-offalign.ensures;
      offside = c.at_most-offside.ensures;
      single = c.at_most-single.ensures;
    }
