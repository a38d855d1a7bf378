-- `sheets::token_said` meets its contract: the line was read as the definition reads its bytes.
use mathlib.Core.Path.{◌≡◌, refl, ap, ◌∙◌}
use Rattle.std.specs.Prelude.{Err}
use Rattle.std.proofs.lemmas.Result.{err_from_is_err_and}
use Rattle.grammar.specs.Layout.{Word}
use Rattle.fields.proofs.Lines.{fields_of}
use Rattle.lines.specs.declared.TokenFault.{TokenFault}
use Rattle.lines.specs.TokenLines.{token_fields}
use Rattle.sheets.specs.Items.{stop}
use Rattle.sheets.specs.Refusals.{number_of}
use Rattle.sheets.specs.LineFaults.{token_fault}
use Rattle.sheets.specs.TokenSheets.{token_said_of}
use Rattle.sheets.proofs.token_said.Goals as goal

-- what is wrong with the line has the refusal's number
wrong : (seen : Word) (e : TokenFault)
    → stop (number_of (token_fault e)) ≡ token_said_of seen (Err e)
wrong seen TokenFault.Form = refl
wrong seen TokenFault.Range = refl
wrong seen TokenFault.Width = refl

pub returns-in_err-t : goal.returns-in_err-t
returns-in_err-t c =
    let a = c.args in
    let p = err_from_is_err_and c.from_residual.result c.from_residual.ensures.1 in
    rw (p.1, p.2) (wrong a.tokens.now c.in_err-t.field-0.0
    ∙ ap (token_said_of a.tokens.now)
    (c.in_err-t.ensures
    ∙ ap (token_fields a.wide) (fields_of a.s.now a.c c.requires.0 c.requires.1)))

pub returns : goal.returns
returns c =
    let a = c.args in
    c.ordered.ensures ∙ ap (token_said_of a.tokens.now)
    (c.in_ok-t.ensures
    ∙ ap (token_fields a.wide) (fields_of a.s.now a.c c.requires.0 c.requires.1))
