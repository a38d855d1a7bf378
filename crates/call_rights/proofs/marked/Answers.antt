-- `marked` meets its contract: 2 and 4 by the new mark's bytes and the rule's clause, else the
-- changed sheet.
use mathlib.Core.Path.{sym, ◌∙◌}
use Rattle.call_rights.proofs.Changes.{done_form, done_lay, done_listed}
use Rattle.call_rights.proofs.marked.Goals as goal

pub returns-then-lay_fits : goal.returns-then-lay_fits
returns-then-lay_fits c =
    rw c.given.ensures (done_listed c.args.rules.now c.args.rule c.args.c
    c.requires.named c.args.lay.now c.in-Some.y
    c.in-Some.ensures (sym
    c.lay_fits.ensures
    ∙ c.if-lay_fits.true) _ _ _
    c.put_changed.ensures)

pub returns-in-None : goal.returns-in-None
returns-in-None c =
    (done_form c.args.rules.now c.args.rule c.args.c
    c.requires.named c.args.lay.now
    c.in-None.ensures _)

pub returns-else-lay_fits : goal.returns-else-lay_fits
returns-else-lay_fits c =
    (done_lay c.args.rules.now c.args.rule c.args.c
    c.requires.named c.args.lay.now c.in-Some.y
    c.in-Some.ensures
    (sym c.lay_fits.ensures ∙ c.if-lay_fits.false) _)
