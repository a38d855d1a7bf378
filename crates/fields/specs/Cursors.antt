-- Lines and fields by the places where they stand (for inner functions).
use Rattle.std.specs.Prelude.{◌≡◌, ℕ, ◌+◌, ◌-◌, ◌≤◌, List, [], ◌∷◌, cond, length, drop, take, leb}
use Rattle.fields.specs.Pieces.{pieces, before}
use Rattle.fields.specs.declared.Cursor.{Cursor}
use Rattle.std.specs.Prelude.{Option, Some, None}

-- the pieces from a place on: none where the place is past the end
abbrev pub pieces_from : ℕ → List ℕ → ℕ → List (List ℕ)
pieces_from b s at = cond (leb at (length s)) (pieces b (drop at s)) []

-- the line that begins at a place: it ends before the next byte 10, or where the sheet ends
abbrev pub line_at : List ℕ → ℕ → Cursor
line_at s at = record { at = at; end = at + length (before 10 (drop at s)) }

-- the bytes from a cursor to the end of its line
abbrev pub bytes_left : List ℕ → Cursor → List ℕ
bytes_left s c = take (c.end - c.at) (drop c.at s)

-- the fields from a cursor to the end of its line
abbrev pub fields_left : List ℕ → Cursor → List (List ℕ)
fields_left s c = pieces_from 32 (take c.end s) c.at

-- f is the first of the fields left, and ends in the line
pub record FirstField (s : List ℕ) (c : Cursor) (f : List ℕ) : Type 0 where
  pub fits : c.at + length f ≤ c.end
  pub rest : List (List ℕ)
  pub here : fields_left s c ≡ f ∷ rest

-- what a field was read as, with a cursor
abbrev pub with_cursor : {X : Type 0} → Option X → Cursor → Option (X × Cursor)
with_cursor (Some v) c = Some (v, c)
with_cursor None c = None

-- the first of the fields left at a cursor, where `read` says what a field's bytes are, and the
-- cursor moved past it and past the blank behind it
abbrev pub read_field : {X : Type 0} → (List ℕ → Option X) → Cursor → List (List ℕ)
    → Option (X × Cursor)
read_field read c [] = None
read_field read c (f ∷ fs) = with_cursor (read f) (record { at = c.at + length f + 1; end = c.end })
