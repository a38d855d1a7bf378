-- `fields::Cursor::three` meets its contract: after each field, what there is is what the
-- definition says of the fields left.
use mathlib.Core.Path.{◌∙◌}
use Rattle.std.specs.Prelude.{None}
use Rattle.fields.proofs.Fields.{with_good, with_bad}
use Rattle.fields.specs.Words.{numeral_of}
use Rattle.fields.specs.Three.{with_third, with_second, with_first}
use Rattle.fields.specs.Cursors.{fields_left}
use Rattle.fields.proofs.Cursor.three.Goals as goal

pub returns-in_err-y : goal.returns-in_err-y
returns-in_err-y c =
    let s = c.args.s.now in
    rw c.from_residual-in_err-y.ensures
    ((with_good None numeral_of with_first s c.args.self _ _ c.in_ok-x.ensures).0
    ∙ with_bad None numeral_of (with_second c.in_ok-x.x) c.in_ok-x.d (fields_left s c.in_ok-x.d)
    c.in_err-y.ensures)

pub returns-in_err-z : goal.returns-in_err-z
returns-in_err-z c =
    let s = c.args.s.now in
    rw c.from_residual-in_err-z.ensures
    ((with_good None numeral_of with_first s c.args.self _ _ c.in_ok-x.ensures).0
    ∙ (with_good None numeral_of (with_second c.in_ok-x.x) s c.in_ok-x.d _ _ c.in_ok-y.ensures).0
    ∙ with_bad None numeral_of (with_third c.in_ok-x.x c.in_ok-y.y) c.in_ok-y.e
    (fields_left s c.in_ok-y.e) c.in_err-z.ensures)

pub returns : goal.returns
returns c =
    let s = c.args.s.now in
    let p = with_good None numeral_of with_first s c.args.self _ _ c.in_ok-x.ensures in
    let q = with_good None numeral_of (with_second c.in_ok-x.x) s c.in_ok-x.d _ _
    c.in_ok-y.ensures in
    let r = with_good None numeral_of (with_third c.in_ok-x.x c.in_ok-y.y) s c.in_ok-y.e _ _
    c.in_ok-z.ensures in
    (p.0 ∙ q.0 ∙ r.0, r.1 ∙ q.1 ∙ p.1)
