-- `told` meets its contract.
use native.Mathlib.Omega.{arith}
use Rattle.row_counts.proofs.RowCountLaws.{exact_of, more_of}
use Rattle.row_counts.proofs.told.Goals as goal

pub returns-then-n-lt-LIMIT : goal.returns-then-n-lt-LIMIT
returns-then-n-lt-LIMIT c = λ k e. exact_of _ k c.if-n-lt-LIMIT.true e

pub returns-else-n-lt-LIMIT : goal.returns-else-n-lt-LIMIT
returns-else-n-lt-LIMIT c = λ k e. more_of _ k (λ h. omega (arith, c.if-n-lt-LIMIT.false)) e
