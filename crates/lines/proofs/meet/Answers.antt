-- `lines::meet` meets its contract: the tests are the definition's, in its order.
use mathlib.Core.Path.{sym, refl}
use Rattle.fields.proofs.Pick.{and_true, and_false}
use borrow.Author.Tests.{le-leb, lt-leb}
use Rattle.lines.proofs.meet.Goals as goal

pub returns-then-a-b : goal.returns-then-a-b
returns-then-a-b c = sym (and_true (le-leb _ _ c.if-a-b.true) _ _ refl)

pub returns : goal.returns
returns c = sym (and_false (lt-leb _ _ c.if-a-b.false) _)
