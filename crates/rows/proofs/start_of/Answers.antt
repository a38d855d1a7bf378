-- `start_of` meets its contract, by cases on the length.
use mathlib.Core.Path.{sym}
use Rattle.rows.proofs.StepLaws.{start_some}
use Rattle.rows.proofs.start_of.Goals as goal

pub returns-else-n-eq0 : goal.returns-else-n-eq0
returns-else-n-eq0 c = sym (start_some _ _ c.if-n-eq0.false)
