-- `lines::token_end` meets its contract: no field is left exactly if the cursor is past the line's
-- end.
use mathlib.Core.Path.{sym, ◌∙◌}
use Rattle.fields.proofs.Fields.{end_good, end_bad}
use Rattle.std.specs.Prelude.{Err}
use Rattle.lines.specs.declared.TokenFault.TheVariants.{Form}
use Rattle.lines.proofs.token_end.Goals as goal

pub returns-then-c : goal.returns-then-c
returns-then-c c =
    sym (end_bad (Err Form) _ c.args.s.now c.args.c c.requires c.if-c.true)

pub returns : goal.returns
returns c =
    c.token_of.ensures ∙ sym (end_good (Err Form) _ c.args.s.now c.args.c c.requires
    c.if-c.false)
