-- What a rights line says: docs/FORMAT.md, "Calls and lent memory", and refusal 50.
use Rattle.std.specs.Prelude.{ℕ, List, [], ◌∷◌, Bool, true, false, cond, ◌&&◌, leb}
use Rattle.std.specs.Prelude.{Option, None, Some}
use Rattle.fields.specs.Pieces.{pieces, same_bytes}
use Rattle.fields.specs.Words.{numeral_of}
use Rattle.fields.specs.Fields.{on_value, with_field}
use Rattle.rights.specs.declared.Right.{Right}

-- `see` or `change`: does it say change?
abbrev pub may_of : List ℕ → Option Bool
may_of f =
    cond (same_bytes f (115 ∷ 101 ∷ 101 ∷ [])) (Some false)
    (cond (same_bytes f (99 ∷ 104 ∷ 97 ∷ 110 ∷ 103 ∷ 101 ∷ [])) (Some true)
    None)

-- just one field is left, and it is one that `read` takes
abbrev pub last_of : {X : Type 0} → (List ℕ → Option X) → List (List ℕ) → Option X
last_of read [] = None
last_of read (f ∷ []) = read f
last_of read (f ∷ g ∷ fs) = None

-- its user 0 to 15, its range 0 to 63 and not reversed
abbrev pub right_of_of : ℕ → ℕ → ℕ → Bool → Option Right
right_of_of u l h m = cond (leb u 15 && (leb h 63 && leb l h))
    (Some (record { user = u; low = l; high = h; change = m })) None

-- four fields: three numbers as in rule sheets, then what the user may do
abbrev pub after_high : ℕ → ℕ → ℕ → List (List ℕ) → Option Right
after_high u l h fs = on_value None (last_of may_of fs) (right_of_of u l h)

abbrev pub after_low : ℕ → ℕ → List (List ℕ) → Option Right
after_low u l fs = with_field None numeral_of fs (after_high u l)

abbrev pub after_user : ℕ → List (List ℕ) → Option Right
after_user u fs = with_field None numeral_of fs (after_low u)

abbrev pub right_fields : List (List ℕ) → Option Right
right_fields fs = with_field None numeral_of fs after_user

-- the line's bytes without its byte 10, parted by blanks
abbrev pub right_line : List ℕ → Option Right
right_line line = right_fields (pieces 32 line)
