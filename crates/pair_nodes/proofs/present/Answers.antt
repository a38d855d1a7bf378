-- `pair_nodes::present` meets its contract.
use Rattle.sets.proofs.Says.{says_iff, says_leb}
use Rattle.pair_nodes.proofs.present.Goals as goal

pub returns : goal.returns
returns c = says_iff (λ h. record { there = h }) (λ p. p.there) (says_leb 1048576 _)
