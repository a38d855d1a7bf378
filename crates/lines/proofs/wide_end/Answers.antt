-- `lines::wide_end` meets its contract: after the width, what the line says is what the definition
-- says of the fields left.
use mathlib.Core.Path.{sym, ◌∙◌}
use Rattle.std.specs.Prelude.{Err}
use Rattle.fields.specs.Words.{numeral_of}
use Rattle.fields.proofs.Fields.{with_good}
use Rattle.lines.specs.declared.TokenFault.TheVariants.{Form}
use Rattle.lines.specs.TokenLines.{after_width}
use Rattle.lines.proofs.wide_end.Goals as goal

pub returns : goal.returns
returns c =
    let a = c.args in
    c.token_end.ensures ∙ sym (with_good (Err Form) numeral_of (after_width a.t a.l a.k) a.s.now a.c
    _ _ (sym c.in_ok-w.ensures.ok_part ∙ c.read.ensures)).0
