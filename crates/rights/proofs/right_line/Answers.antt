-- `right_line` meets its contract: after three numbers, what the line says is what the definition
-- says of the fields left.
use mathlib.Core.Path.{◌≡◌, ap, ◌∙◌}
use mathlib.Core.Bool.{Bool}
use mathlib.Core.List.{List}
use Rattle.std.specs.Prelude.{Option, None, Some}
use Prim.Native.Nat.{ℕ}
use Rattle.fields.specs.declared.Cursor.{Cursor}
use Rattle.fields.specs.Three.{ThreeTold}
use Rattle.fields.specs.Fields.{on_value}
use Rattle.fields.proofs.Three.{three_good}
use Rattle.rights.specs.RightLines.{may_of, last_of, right_of_of, right_fields, after_high}
use Rattle.fields.specs.Cursors.{fields_left}

by_may : (u l h : ℕ) (fs : List (List ℕ)) (o : Option Bool) → last_of may_of fs ≡ o
    → after_high u l h fs ≡ on_value None o (right_of_of u l h)
by_may u l h fs o e = ap (λ (x : Option Bool). on_value None x (right_of_of u l h)) e

-- what is said by what the last field is
stage2 : (s : List ℕ) (c : Cursor) (u l h : ℕ) (d : Cursor) (o : Option Bool)
    → ThreeTold s c (Some (u, l, h, d)) → last_of may_of (fields_left s d) ≡ o
    → right_fields (fields_left s c) ≡ on_value None o (right_of_of u l h)
stage2 s c u l h d o t e =
    three_good None after_high (fields_left s c) _ t.0 ∙ by_may u l h (fields_left s d) o e
