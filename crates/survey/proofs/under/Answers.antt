-- `survey::under` meets its contract.
use mathlib.Core.Logic.{inl, inr, ⊎_elim}
use Rattle.sets.proofs.Says.{holds, says_iff}
use Rattle.survey.proofs.under.Goals as goal

pub returns-then-a-eq0 : goal.returns-then-a-eq0
returns-then-a-eq0 c = holds (inl c.if-a-eq0.true)

pub returns : goal.returns
returns c =
    says_iff inr (⊎_elim (λ e. absurd (c.if-a-eq0.false e)) (λ i. i)) c.has-member.ensures
