-- `survey::with_if` meets its contract.
use Rattle.sets.proofs.Says.{true_not_false}
use mathlib.Core.Path.{refl, sym, ◌∙◌}
use Rattle.acyclic.proofs.Growth.{grown_none, grown_with}
use Rattle.survey.proofs.with_if.Goals as goal

pub returns-then-yes : goal.returns-then-yes
returns-then-yes c = rw c.with.ensures (grown_with _ _ (c.if-yes.true, refl) (λ Y p. p.1))

pub returns : goal.returns
returns c = grown_none (λ Y p. absurd (true_not_false (sym p.0 ∙ c.if-yes.false)))
