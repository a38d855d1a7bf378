use Rattle.grammar.specs.Content.{rules_of}
use Rattle.chains.proofs.ChainLaws.{upto_stored}
use Rattle.chains.proofs.put_level.Goals as goal

pub returns : goal.returns
returns c =
    let a = c.args in
    upto_stored (rules_of a.g) a.e a.l
    c.level.ensures c.requires.upto
    c.store.ensures
