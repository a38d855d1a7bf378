use Rattle.chains.proofs.ReachLaws.{level_done}
use Rattle.chains.proofs.level.Goals as goal

pub returns : goal.returns
returns c =
    let a = c.args in
    level_done a.g c.requires.formed a.e a.l
    c.selves.ensures c.counts.ensures c.close.ensures
    c.counts-2.ensures c.turn.ensures
