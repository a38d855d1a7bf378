use Rattle.pair_steps.proofs.FoundLaws.{starts-most}
use Rattle.pair_steps.proofs.starts_most.Goals as goal

pub returns : goal.returns
returns c = starts-most c.first_stop-t.ensures c.first_stop-v.ensures
    c.starts_left.ensures
