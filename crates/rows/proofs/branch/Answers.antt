-- `branch` meets its contract: one entry is pushed, or two (`branched_one`, `branched_two`).
use mathlib.Core.Path.{subst}
use Rattle.rows.specs.Steps.{Branches}
use Rattle.rows.proofs.StepLaws.{branched_one, branched_two}
use Rattle.rows.proofs.branch.Goals as goal

pub returns-in-Unary : goal.returns-in-Unary
returns-in-Unary c = rw c.in-Unary.is
    (branched_one _ (subst (Branches _ _ _ _) c.in-Unary.is c.requires) _ c.put.ensures)

pub returns-in-Binary : goal.returns-in-Binary
returns-in-Binary c = rw c.in-Binary.is
    (branched_two _ _ _ (subst (Branches _ _ _ _) c.in-Binary.is c.requires) _ _
    c.put-in-Binary.ensures c.put-in-Binary-2.ensures)
