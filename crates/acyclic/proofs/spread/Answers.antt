-- `acyclic::spread` meets its contract: the clause's targets are added exactly where the left is a
-- or a member.
use mathlib.Core.Logic.{inl, inr, ⊎_elim}
use Rattle.acyclic.proofs.Growth.{grown_none, grown_map}
use Rattle.acyclic.proofs.spread.Goals as goal

pub returns-then-left-a : goal.returns-then-left-a
returns-then-left-a c =
    grown_map c.with_targets.ensures (λ Y p. (inl c.if-left-a.true, p)) (λ Y p. p.1)

pub returns-then-has : goal.returns-then-has
returns-then-has c = grown_map c.with_targets-then-has.ensures
    (λ Y p. (inr (c.has.ensures.is c.if-has.true), p)) (λ Y p. p.1)

pub returns : goal.returns
returns c = grown_none (λ Y p. absurd
    (⊎_elim c.if-left-a.false (c.has.ensures.isnt c.if-has.false) p.0))
