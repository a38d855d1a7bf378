-- `call_sheets::one_field` meets its contract. The loop's invariant: the bytes are one field if
-- those from b on are.
use mathlib.Core.Path.{◌≡◌}
use lib.ListN.{drop}
use Rattle.call_sheets.specs.OneField.{one_field_of}
use Rattle.call_sheets.proofs.one_field.Given as goal

abbrev pub invariant-loop-b : goal.invariant-loop-b
invariant-loop-b l = one_field_of l.f ≡ one_field_of (drop l.b-index l.f)
