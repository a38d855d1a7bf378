-- The table of expansions holds: both sheets compute to the same rules.
use mathlib.Core.Path.{refl}
use Rattle.grammar.specs.Layout.{Every}
use Rattle.lexemes.specs.Lexemes.{signs}
use Rattle.clauses.proofs.Deciding.{says?}
use Rattle.clauses.proofs.Accepts.{atom, with_suffix, item_of, first_suffix, item_out, ends_here}
use Rattle.clauses.proofs.Accepts.{row_of, as_one, many_of, step_row, step_many, parsed, accepted}
use Rattle.worked_examples.specs.Expansions.{Expands, expansions}

pub expansions_hold : Every Expands expansions
unfolding signs says? atom with_suffix item_of first_suffix item_out ends_here row_of as_one many_of
    step_row step_many parsed accepted
expansions_hold = (
  record { taken = tt; same = refl },
  (
    record { taken = tt; same = refl },
    (record { taken = tt; same = refl }, (record { taken = tt; same = refl }, tt)),
  ),
)
