-- The test is the definition's.
use borrow.Author.Tests.{le-leb, lt-leb}
use Rattle.range_sheets.proofs.ends_of.Goals as goal

pub returns-then-b-a : goal.returns-then-b-a
returns-then-b-a c = simp (lt-leb _ _ c.if-b-a.true)

pub returns : goal.returns
returns c = simp (le-leb _ _ c.if-b-a.false)
