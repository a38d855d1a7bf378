use Rattle.cuts.proofs.JoinLaws.{joins_none, joins_as}
use Rattle.chains.proofs.add_if.Goals as goal

pub returns-then-not-has : goal.returns-then-not-has
returns-then-not-has c = joins_as (λ q B x. absurd x)
    (λ q B x. c.has.ensures.isnt c.if-not-has.true x.1) (joins_none _)

pub returns : goal.returns
returns c = let h = c.has.ensures.is
    c.if-not-has.false in
    joins_as (λ q B x. (x.0, h, x.1)) (λ q B x. (x.0, x.2))
    c.add_set.ensures
