use Rattle.pair_steps.proofs.NarrowLaws.{narrow_and, narrow_then, narrow_as}
use Rattle.pair_steps.proofs.own_left.Goals as goal

pub returns : goal.returns
returns c =
    narrow_as (λ k p. (p.0.0, p.0.1, p.1)) (λ k p. ((p.0, p.1), p.2))
    (narrow_then
    (narrow_then c.inside-m1.ensures (narrow_and _ _ _ (λ k p. p) (λ k p. p)))
    c.ahead.ensures)
