-- The bound that stands before a rule sheet: docs/FORMAT.md, "The programs".
use Rattle.std.specs.Prelude.{cond, ◌&&◌, List, [], ◌∷◌, ℕ, ◌-◌, eqb, leb, length, get_or, take}
use Rattle.std.specs.Prelude.{drop}
use Rattle.std.specs.Prelude.{Option, None}
use Rattle.fields.specs.Pieces.{same_bytes}
use Rattle.fields.specs.Words.{numeral_of}

-- the line `bound`
abbrev pub bound_line : List ℕ
bound_line = 98 ∷ 111 ∷ 117 ∷ 110 ∷ 100 ∷ 10 ∷ []

-- the bound k: the line `bound`, a line with k in one to five digits, and no more
abbrev pub bound_of : List ℕ → Option ℕ
bound_of s =
    cond (leb 7 (length s) && (same_bytes (take 6 s) bound_line && eqb (get_or s (length s - 1) 0)
    10))
    (numeral_of (take (length s - 7) (drop 6 s)))
    None
