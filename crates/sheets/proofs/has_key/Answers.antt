-- `sheets::has_key` meets its contract.
use mathlib.Core.Path.{sym, ap, ◌∙◌}
use Rattle.lines.specs.declared.Key.{Key}
use Rattle.lines.specs.Keys.{same_key_of}
use Rattle.sheets.proofs.Lefts.{other_left}
use Rattle.sheets.proofs.has_key.Goals as goal

pub returns-then-x-key : goal.returns-then-x-key
returns-then-x-key c = let a = c.args in
    sym (other_left a.key a.x c.if-x-key.true)

pub returns : goal.returns
returns c = let a = c.args in
    c.same_key.ensures ∙ ap (λ (x : Key). same_key_of x a.key) c.key_of.ensures
