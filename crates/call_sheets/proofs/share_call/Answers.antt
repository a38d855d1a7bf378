-- `call_sheets::share_call` meets its contract: after three numbers, what the sheet names is what
-- the definition says of the fields left.
use mathlib.Core.Path.{sym, ◌∙◌}
use native.Mathlib.Omega.{arith}
use Rattle.std.specs.Prelude.{None}
use Rattle.fields.specs.Cursors.{fields_left}
use Rattle.fields.proofs.Fields.{end_good, end_bad}
use Rattle.fields.proofs.Three.{three_good}
use Rattle.call_sheets.specs.CallSheets.{share_end}
use Rattle.call_sheets.proofs.share_call.Goals as goal

pub returns-then-d : goal.returns-then-d
returns-then-d c =
    let a = c.args in
    let t = c.in_ok-n.ensures in
    sym (three_good None share_end (fields_left a.s.now a.c) _ t.0
    ∙ end_bad None _ a.s.now c.in_ok-n.d (omega (arith, t.1, c.requires))
    (omega (arith, c.if-d.true)))

pub returns : goal.returns
returns c =
    let a = c.args in
    let t = c.in_ok-n.ensures in
    sym (three_good None share_end (fields_left a.s.now a.c) _ t.0
    ∙ end_good None _ a.s.now c.in_ok-n.d (omega (arith, t.1, c.requires))
    (omega (arith, c.if-d.false)))
