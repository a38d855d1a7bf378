-- `fields::Cursor::field` meets its contract: the bytes up to the next blank or the line's end are
-- the first of the fields left.
use mathlib.Core.Path.{sym}
use native.Mathlib.Omega.{arith}
use Rattle.fields.proofs.Fields.{line_long, field_high, first_field}
use Rattle.fields.proofs.Cursor.field.Goals as goal

pub slice_bounds-line-end : goal.slice_bounds-line-end
slice_bounds-line-end c = sym (line_long c.args.s.now c.args.self c.requires.1)

pub piece_end-e-requires : goal.piece_end-e-requires
piece_end-e-requires c = omega (arith, line_long c.args.s.now c.args.self c.requires.1)

pub slice_bounds-result-end : goal.slice_bounds-result-end
slice_bounds-result-end c =
    field_high c.args.s.now c.args.self c.requires.1 c.piece_end-e.result c.requires.0
    c.piece_end-e.ensures

pub returns : goal.returns
returns c = first_field c.args.s.now c.args.self c.requires.1 c.piece_end-e.result
    c.requires.0 c.piece_end-e.ensures
