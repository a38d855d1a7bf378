-- `acyclic::nullables` meets its contract: a closed set has all of them.
use Rattle.acyclic.proofs.Nulls.{nulls_exact}
use Rattle.acyclic.proofs.nullables.Goals as goal

pub returns : goal.returns
returns c = nulls_exact _ c.closed.ensures.shut c.closed.ensures.sound
