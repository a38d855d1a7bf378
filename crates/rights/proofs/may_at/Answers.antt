-- `may_at` meets its contract: the bytes left are the last field, if no blank is among them.
use mathlib.Core.Path.{sym, ◌∙◌}
use Rattle.rights.proofs.Words.{may_none, may_see, may_change, may_not}
use Rattle.rights.proofs.may_at.Goals as goal

pub returns-then-end-at : goal.returns-then-end-at
returns-then-end-at c = may_none _ _ c.requires c.if-end-at.true

pub returns-then-eq : goal.returns-then-eq
returns-then-eq c =
    may_see c.args.s.now c.args.c c.requires c.if-end-at.false
    (sym c.if-eq.true ∙ rw c.as_slice.ensures at c.eq.ensures)

pub returns-then-eq-2 : goal.returns-then-eq-2
returns-then-eq-2 c =
    may_change c.args.s.now c.args.c c.requires c.if-end-at.false
    (sym c.if-eq.false ∙ rw c.as_slice.ensures at c.eq.ensures)
    (sym c.if-eq-2.true ∙ rw c.as_slice-2.ensures at c.eq-2.ensures)

pub returns : goal.returns
returns c =
    may_not c.args.s.now c.args.c c.requires c.if-end-at.false
    (sym c.if-eq.false ∙ rw c.as_slice.ensures at c.eq.ensures)
    (sym c.if-eq-2.false ∙ rw c.as_slice-2.ensures at c.eq-2.ensures)
