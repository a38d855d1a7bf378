-- `sheets::rule_said` meets its contract: the line was read as the definition reads its bytes.
use mathlib.Core.Path.{◌≡◌, refl, ap, ◌∙◌}
use Rattle.std.specs.Prelude.{Err}
use Rattle.std.proofs.lemmas.Result.{err_from_is_err_and}
use Rattle.grammar.specs.Trees.{Rules}
use Rattle.fields.proofs.Lines.{fields_of}
use Rattle.lines.specs.declared.RuleFault.{RuleFault}
use Rattle.lines.specs.RuleLines.{rule_fields}
use Rattle.sheets.specs.Items.{stop}
use Rattle.sheets.specs.Refusals.{number_of}
use Rattle.sheets.specs.LineFaults.{rule_fault}
use Rattle.sheets.specs.RuleSheets.{rule_said_of}
use Rattle.sheets.proofs.rule_said.Goals as goal

-- what is wrong with the line has the refusal's number
wrong : (seen : Rules) (e : RuleFault) → stop (number_of (rule_fault e)) ≡ rule_said_of seen (Err e)
wrong seen RuleFault.Form = refl
wrong seen RuleFault.Range = refl
wrong seen RuleFault.Unfit = refl
wrong seen RuleFault.Reversed = refl

pub returns-in_err-r : goal.returns-in_err-r
returns-in_err-r c =
    let a = c.args in
    let p = err_from_is_err_and c.from_residual.result c.from_residual.ensures.1 in
    rw (p.1, p.2) (wrong a.rules.now c.in_err-r.field-0.0
    ∙ ap (rule_said_of a.rules.now)
    (c.in_err-r.ensures ∙ ap rule_fields (fields_of a.s.now a.c c.requires.0 c.requires.1)))

pub returns : goal.returns
returns c =
    let a = c.args in
    c.fresh.ensures ∙ ap (rule_said_of a.rules.now)
    (c.in_ok-r.ensures ∙ ap rule_fields (fields_of a.s.now a.c c.requires.0 c.requires.1))
