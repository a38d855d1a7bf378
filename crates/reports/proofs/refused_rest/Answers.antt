-- `reports::refused_rest` meets its contract: the number of a refusal, a line's number, and the
-- end.
use native.Mathlib.Omega.{arith}
use Rattle.sets.proofs.Says.{fails}
use Rattle.reports.proofs.RestLaws.{refused_number, refused_second, refused_more}
use Rattle.reports.proofs.refused_rest.Goals as goal

pub returns-then-not-of_fault : goal.returns-then-not-of_fault
returns-then-not-of_fault c =
    fails (refused_number _ _ c.in-Some.ensures
    (c.of_fault.ensures.isnt c.if-not-of_fault.true))

pub returns-in_default-number_at : goal.returns-in_default-number_at
returns-in_default-number_at c =
    fails (refused_second _ _ c.in-Some.ensures c.in_default-number_at.ensures)

pub returns-else-b-s : goal.returns-else-b-s
returns-else-b-s c =
    fails (refused_more _ _ c.in-Some.ensures c.in-Some-number_at.ensures
    (λ e. omega (arith, c.if-b-s.false)))
