-- `line_check` meets its contract.
use mathlib.Core.Path.{sym, ◌∙◌}
use native.Mathlib.Omega.{arith}
use Rattle.clause_sheets.proofs.LineParts.{split, unsplit, too_high, no_blank}
use Rattle.clause_sheets.proofs.LineParts.{checked_behind, checked_not}
use Rattle.fields.specs.Cursors.{bytes_left}
use Rattle.clause_sheets.proofs.line_check.Goals as goal

pub returns-in_default : goal.returns-in_default
returns-in_default c =
    checked_not (bytes_left c.args.s.now
    c.args.c)
    (unsplit c.args.s.now
    c.args.c c.requires
    (sym c.in_default.is ∙ c.read.ensures))

pub returns-then-v-gt63 : goal.returns-then-v-gt63
returns-then-v-gt63 c =
    checked_not (bytes_left c.args.s.now
    c.args.c)
    (too_high c.args.s.now
    c.args.c
    c.requires _ _
    (split c.args.s.now
    c.args.c
    c.requires _ _
    (sym c.in-Some.is
    ∙ c.read.ensures))
    c.if-v-gt63.true)

pub returns-then-end-at : goal.returns-then-end-at
returns-then-end-at c =
    checked_not (bytes_left c.args.s.now
    c.args.c)
    (no_blank c.args.s.now
    c.args.c
    c.requires _ _
    (split c.args.s.now c.args.c c.requires
    _ _ (sym c.in-Some.is
    ∙ c.read.ensures)) (omega (arith, c.if-v-gt63.false))
    c.if-end-at.true)

pub slice_bounds-expression_check-end : goal.slice_bounds-expression_check-end
slice_bounds-expression_check-end c =
    let S = (split c.args.s.now
    c.args.c
    c.requires _ _
    (sym c.in-Some.is
    ∙ c.read.ensures)) in
    omega (arith, S.end, c.requires)

pub returns : goal.returns
returns c =
    checked_behind c.args.s.now
    c.args.c
    c.requires _ _
    (split c.args.s.now
    c.args.c
    c.requires _ _
    (sym c.in-Some.is
    ∙ c.read.ensures))
    (omega (arith, c.if-v-gt63.false))
    (omega (arith, c.if-end-at.false)) _
    c.expression_check.ensures
