-- `step_of` meets its contract: the rule that stands at the place is the one read there
-- (`step_at`).
use Rattle.rows.proofs.StepLaws.{step_at}
use Rattle.rows.proofs.step_of.Goals as goal

pub returns : goal.returns
returns c = λ x e. rw c.clause_kind.ensures (step_at c.args.g.rules c.args.p x _ c.args.k _ e)
