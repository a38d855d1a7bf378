-- `expression_check` meets its contract.
use mathlib.Core.Path.{sym, ap, ◌∙◌}
use Rattle.std.specs.Prelude.{Err}
use Rattle.clause_sheets.proofs.LineParts.{good_checked, form_checked, deep_checked}
use Rattle.clause_lines.specs.ClauseLines.{expression}
use Rattle.clause_sheets.proofs.expression_check.Goals as goal

pub returns-in-Ok : goal.returns-in-Ok
returns-in-Ok c =
    good_checked c.args.least _ _
    (expression c.args.x.now)
    (sym c.check.ensures ∙ c.in-Ok.is)
    c.max.ensures

pub returns-in-Err-Unwritten : goal.returns-in-Err-Unwritten
returns-in-Err-Unwritten c =
    form_checked c.args.least
    (expression c.args.x.now)
    (sym c.check.ensures ∙ c.in-Err-Unwritten.is ∙ ap Err c.in-Err-Unwritten.field-0-is)

pub returns-in-Err-Deep : goal.returns-in-Err-Deep
returns-in-Err-Deep c =
    deep_checked c.args.least
    (expression c.args.x.now)
    (sym c.check.ensures ∙ c.in-Err-Deep.is ∙ ap Err c.in-Err-Deep.field-0-is)
