-- By the left.
use mathlib.Core.Logic.{inl, inr, ⊎_elim}
use Rattle.acyclic.proofs.Growth.{grown_none, grown_map}
use Rattle.reachable_rules.proofs.spread.Goals as goal

pub returns-then-left-eq0 : goal.returns-then-left-eq0
returns-then-left-eq0 c =
    grown_map c.with_parts.ensures (λ Y p. (inl c.if-left-eq0.true, p)) (λ Y p. p.1)

pub returns-then-has : goal.returns-then-has
returns-then-has c = grown_map c.with_parts-then-has.ensures
    (λ Y p. (inr (c.has.ensures.is c.if-has.true), p)) (λ Y p. p.1)

pub returns : goal.returns
returns c = grown_none (λ Y p. absurd
    (⊎_elim c.if-left-eq0.false (c.has.ensures.isnt c.if-has.false) p.0))
