-- `acyclic::reach` meets its contract: a closed set has all of them.
use Rattle.acyclic.proofs.Chains.{chains_exact}
use Rattle.acyclic.proofs.reach.Goals as goal

pub returns : goal.returns
returns c = chains_exact c.requires.1 _ _ c.closed.ensures.shut c.closed.ensures.sound
