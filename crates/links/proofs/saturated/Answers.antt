-- Where nothing stands at first, nothing ever does.
use Rattle.grammar.specs.Content.{rules_of}
use Rattle.joins.proofs.PassLaws.{saturated_idle}
use Rattle.links.proofs.saturated.Goals as goal

pub returns-then-b-eq0 : goal.returns-then-b-eq0
returns-then-b-eq0 c =
    let a = c.args in
    saturated_idle a.e.one a.e.two a.k a.len (rules_of a.w) a.b c.if-b-eq0.true
