-- The candidate's tokens stand in its 7 places.
use mathlib.Core.Path.{refl}
use Rattle.pruning.proofs.draft.Goals as goal

pub returns : goal.returns
returns c = (c.tokens.ensures.front, refl, refl)
