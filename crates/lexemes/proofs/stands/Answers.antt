-- `stands` meets its contract.
use mathlib.Core.Path.{sym, ◌∙◌}
use Rattle.fields.proofs.Pick.{hit, miss}
use Rattle.lexemes.proofs.stands.Goals as goal

pub returns-then-starts_with : goal.returns-then-starts_with
returns-then-starts_with c = sym (hit (sym c.starts_with.ensures ∙ c.if-starts_with.true) _ _)

pub returns : goal.returns
returns c = sym (miss (sym c.starts_with.ensures ∙ c.if-starts_with.false) _ _)
