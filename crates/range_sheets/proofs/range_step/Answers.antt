-- By what the line is; the line was read as the definition reads its bytes.
use mathlib.Core.Path.{◌≡◌, ap, ◌∙◌}
use mathlib.Core.List.{List, []}
use Prim.Native.Nat.{ℕ, ◌≤◌}
use lib.ListN.{length}
use Rattle.std.specs.Prelude.{Result}
use Rattle.std.proofs.lemmas.Result.{err_from_is_err_and}
use Rattle.fields.specs.declared.Cursor.{Cursor}
use Rattle.fields.specs.Cursors.{bytes_left, fields_left}
use Rattle.fields.proofs.Lines.{fields_of}
use Rattle.sheets.specs.declared.Fault.{Fault}
use Rattle.sheets.specs.Items.{step_at_of}
use Rattle.column_ranges.specs.declared.RangeToken.{RangeToken}
use Rattle.range_sheets.specs.RangeLines.{range_fields}
use Rattle.range_sheets.specs.RangeSheets.{range_said_of, range_says}
use Rattle.range_sheets.proofs.range_step.Goals as goal

-- what the line was read as
said : (s : List ℕ) (c : Cursor) (x : Result RangeToken Fault) → (c.at ≤ c.end) × (c.end ≤ length s)
    → x ≡ range_fields (fields_left s c) → range_said_of x ≡ range_says [] (bytes_left s c)
said s c x h e = ap range_said_of (e ∙ ap range_fields (fields_of s c h.0 h.1))

pub returns-in_err-range_line-in-Whole : goal.returns-in_err-range_line-in-Whole
returns-in_err-range_line-in-Whole c =
    let s = c.args.s.now in
    let x = c.args.c in
    let p = err_from_is_err_and c.from_residual.result c.from_residual.ensures.1 in
    rw (p.1, p.2) (said s x _ c.requires c.in_err-range_line-in-Whole.ensures
    ∙ ap (step_at_of 14 12 (range_says [] (bytes_left s x))) c.in-Whole.ensures)

pub returns-in_ok-range_line-in-Whole : goal.returns-in_ok-range_line-in-Whole
returns-in_ok-range_line-in-Whole c =
    let s = c.args.s.now in
    let x = c.args.c in
    said s x _ c.requires c.in_ok-range_line-in-Whole.ensures
    ∙ ap (step_at_of 14 12 (range_says [] (bytes_left s x))) c.in-Whole.ensures
