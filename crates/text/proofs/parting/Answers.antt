-- `text::parting` meets its contract: what stands from i on settles the answer.
use mathlib.Core.Path.{refl}
use borrow.Author.Rules.{rules}
use borrow.Author.Tests.{ne_eqb}
use Rattle.text.proofs.PartingLaws.{seeking_start, seeking_next, seeking_found, seeking_end}
use Rattle.text.proofs.parting.Goals as goal
use Rattle.text.proofs.parting.Goals.{else-begins-via-then-begins+else-ends}
use Rattle.text.proofs.parting.Goals.{else-begins-via-else-begins}

pub loop-i-init : goal.loop-i-init
loop-i-init c = seeking_start _

pub returns-then-ends : goal.returns-then-ends
returns-then-ends c =
    let l = c.loop-i in (
      search rules,
      seeking_found _ _ (search rules) c.if-ends.true (rw c.if-begins.true at l.invariant),
    )

pub loop-i-preserved : goal.loop-i-preserved
loop-i-preserved c =
    elim c.else-begins.branch [
      | else-begins-via-then-begins+else-ends w ↦ seeking_next _ _ _ (search rules)
          (rw (w.if-begins.true, ne_eqb _ 10 w.if-ends.false) refl) c.loop-i.invariant
      | else-begins-via-else-begins w ↦ seeking_next _ _ _ (search rules)
          (rw w.if-begins.false refl) c.loop-i.invariant
    ]

pub returns : goal.returns
returns c = seeking_end _ _ _ (search rules) c.loop-i.invariant
