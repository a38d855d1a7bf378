-- What a field may be: a number, a kind letter, a lay word, `-`. docs/FORMAT.md, "Bytes, lines,
-- fields, numbers".
use Rattle.std.specs.Prelude.{ℕ, ◌+◌, ◌-◌, ◌*◌, List, [], ◌∷◌, Bool, cond, ◌&&◌}
use Rattle.std.specs.Prelude.{length, leb}
use Rattle.std.specs.Prelude.{Option, Some, None}
use Rattle.fields.specs.declared.Kind.{Kind}
use Rattle.fields.specs.declared.Lay.{Lay}
use Rattle.fields.specs.Pieces.{same_bytes}

abbrev pub is_digit : ℕ → Bool
is_digit b = leb 48 b && leb b 57

-- the number that the digits t write in base ten, after digits of the value v
abbrev pub digits_of : ℕ → List ℕ → Option ℕ
digits_of v [] = Some v
digits_of v (b ∷ t) = cond (is_digit b) (digits_of (v * 10 + (b - 48)) t) None

-- a number of one to five digits, leading zeros or not; its value alone counts
abbrev pub numeral_of : List ℕ → Option ℕ
numeral_of t = cond (leb 1 (length t) && leb (length t) 5) (digits_of 0 t) None

-- E A U B
abbrev pub kind_of : List ℕ → Option Kind
kind_of f =
    cond (same_bytes f (69 ∷ [])) (Some Kind.E)
    (cond (same_bytes f (65 ∷ [])) (Some Kind.A)
    (cond (same_bytes f (85 ∷ [])) (Some Kind.U)
    (cond (same_bytes f (66 ∷ [])) (Some Kind.B)
    None)))

-- none offside offalign single align indent
abbrev pub lay_of : List ℕ → Option Lay
lay_of f =
    cond (same_bytes f (110 ∷ 111 ∷ 110 ∷ 101 ∷ [])) (Some Lay.None)
    (cond (same_bytes f (111 ∷ 102 ∷ 102 ∷ 115 ∷ 105 ∷ 100 ∷ 101 ∷ [])) (Some Lay.Offside)
    (cond (same_bytes f (111 ∷ 102 ∷ 102 ∷ 97 ∷ 108 ∷ 105 ∷ 103 ∷ 110 ∷ [])) (Some Lay.Offalign)
    (cond (same_bytes f (115 ∷ 105 ∷ 110 ∷ 103 ∷ 108 ∷ 101 ∷ [])) (Some Lay.Single)
    (cond (same_bytes f (97 ∷ 108 ∷ 105 ∷ 103 ∷ 110 ∷ [])) (Some Lay.Align)
    (cond (same_bytes f (105 ∷ 110 ∷ 100 ∷ 101 ∷ 110 ∷ 116 ∷ [])) (Some Lay.Indent)
    None)))))

-- a number as an operand
abbrev pub number_operand_of : Option ℕ → Option (Option ℕ)
number_operand_of (Some v) = Some (Some v)
number_operand_of None = None

-- `-`, or a number
abbrev pub operand_of : List ℕ → Option (Option ℕ)
operand_of f = cond (same_bytes f (45 ∷ [])) (Some None)
    (number_operand_of (numeral_of f))
