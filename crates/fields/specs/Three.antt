-- The three numbers with which a line of a token, range or rights sheet and the numbers of a share
-- begin (for inner functions).
use Rattle.std.specs.Prelude.{◌≡◌, List, ℕ}
use Rattle.std.specs.Prelude.{Option, Some, None}
use Rattle.fields.specs.Words.{numeral_of}
use Rattle.fields.specs.Fields.{with_field}
use Rattle.fields.specs.Cursors.{fields_left}
use Rattle.fields.specs.declared.Cursor.{Cursor}

-- three numbers, and the fields behind them
pub record Three : Type 0 where
  pub first : ℕ
  pub second : ℕ
  pub third : ℕ
  pub rest : List (List ℕ)

abbrev pub with_third : ℕ → ℕ → ℕ → List (List ℕ) → Option Three
with_third x y z fs = Some (record { first = x; second = y; third = z; rest = fs })

abbrev pub with_second : ℕ → ℕ → List (List ℕ) → Option Three
with_second x y fs = with_field None numeral_of fs (with_third x y)

abbrev pub with_first : ℕ → List (List ℕ) → Option Three
with_first x fs = with_field None numeral_of fs (with_second x)

abbrev pub three_of : List (List ℕ) → Option Three
three_of fs = with_field None numeral_of fs with_first

-- r says of the fields left at a cursor whether they begin so, and where those behind begin
abbrev pub ThreeTold : List ℕ → Cursor → Option (ℕ × ℕ × ℕ × Cursor) → Type 0
ThreeTold s c (Some (x, y, z, d)) =
    (three_of (fields_left s c) ≡ with_third x y z (fields_left s d)) × (d.end ≡ c.end)
ThreeTold s c None = three_of (fields_left s c) ≡ None
