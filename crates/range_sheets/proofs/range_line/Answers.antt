-- After three numbers and after the fourth, what the line says is what the definition says of the
-- fields left.
use mathlib.Core.Path.{◌≡◌, sym, ◌∙◌}
use mathlib.Core.List.{List}
use Prim.Native.Nat.{ℕ, ◌≤◌, ◌<◌}
use native.Mathlib.Omega.{arith}
use lib.ListN.{length}
use Rattle.fields.specs.declared.Cursor.{Cursor}
use Rattle.std.specs.Prelude.{Some, None}
use Rattle.fields.specs.Words.{numeral_of}
use Rattle.fields.specs.Three.{ThreeTold}
use Rattle.fields.specs.Cursors.{fields_left, read_field}
use Rattle.fields.proofs.Fields.{with_good, with_bad, end_good, end_bad}
use Rattle.fields.proofs.Three.{three_good, three_bad}
use Rattle.std.specs.Prelude.{Result, Err}
use Rattle.sheets.specs.declared.Fault.{Fault}
use Rattle.column_ranges.specs.declared.RangeToken.{RangeToken}
use Rattle.range_sheets.specs.RangeLines.{range_fields, range_of, after_range_low, after_range_high}
use Rattle.range_sheets.proofs.range_line.Goals as goal

-- a line not so written
abbrev form : Result RangeToken Fault
form = Err Fault.TokenForm

-- what is left to say after the three numbers and after the fourth; the cursor is still in the
-- sheet
module _ (s : List ℕ) (a : Cursor) (t l k : ℕ) (d : Cursor)
    (three : ThreeTold s a (Some (t, l, k, d))) (whole : a.end ≤ length s) where
  stage : range_fields (fields_left s a) ≡ after_range_low t l k (fields_left s d)
  stage = three_good form after_range_low (fields_left s a) _ three.0

  inside : d.end ≤ length s
  inside = omega (arith, three.1)

  no_fourth : None ≡ read_field numeral_of d (fields_left s d)
      → form ≡ range_fields (fields_left s a)
  no_fourth e =
      sym (stage ∙ with_bad form numeral_of (after_range_high t l k) d (fields_left s d) e)

  module _ (h : ℕ) (e : Cursor)
      (fourth : Some (h, e) ≡ read_field numeral_of d (fields_left s d)) where
    good : (after_range_low t l k (fields_left s d) ≡ after_range_high t l k h (fields_left s e))
        × (e.end ≡ d.end)
    good = with_good form numeral_of (after_range_high t l k) s d e h fourth

    inside2 : e.end ≤ length s
    inside2 = omega (arith, good.1, inside)

    more : e.at ≤ e.end → form ≡ range_fields (fields_left s a)
    more x = sym (stage ∙ good.0 ∙ end_bad form _ s e inside2 x)

    whole_line : e.end < e.at → range_of t l k h ≡ range_fields (fields_left s a)
    whole_line x = sym (stage ∙ good.0 ∙ end_good form _ s e inside2 x)

pub returns-in_default : goal.returns-in_default
returns-in_default c =
    sym (three_bad form after_range_low (fields_left c.args.s.now c.args.c)
    (rw c.in_default.is at c.three.ensures))

pub read-requires : goal.read-requires
read-requires c = inside c.args.s.now c.args.c _ _ _ _ c.in-Some.ensures c.requires

pub returns-in_default-read : goal.returns-in_default-read
returns-in_default-read c =
    no_fourth c.args.s.now c.args.c _ _ _ _ c.in-Some.ensures c.requires
    (sym c.in_default-read.is ∙ c.read.ensures)

pub returns-then-e : goal.returns-then-e
returns-then-e c =
    more c.args.s.now c.args.c _ _ _ _ c.in-Some.ensures c.requires _ _ c.in-Some-read.ensures
    (omega arith)

pub returns : goal.returns
returns c =
    c.range_of.ensures
    ∙ whole_line c.args.s.now c.args.c _ _ _ _ c.in-Some.ensures c.requires _ _
    c.in-Some-read.ensures
    (omega arith)
