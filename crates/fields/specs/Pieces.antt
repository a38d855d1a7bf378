-- Lines and fields: a sheet's bytes, parted by byte 10 and by byte 32. docs/FORMAT.md, "Bytes,
-- lines, fields, numbers".
use Rattle.std.specs.Prelude.{ℕ, List, [], ◌∷◌, Bool, true, false, cond, eqb}
use Rattle.std.specs.Cmp.Lexicographic.{pointwise}

-- the pieces that bytes b part s into: one more than there are bytes b, empty ones too.
-- A sheet's pieces by byte 10 are its lines and the bytes after the last byte 10; a line's pieces
-- by byte 32 are its fields
abbrev pub onto : ℕ → List (List ℕ) → List (List ℕ)
onto x [] = (x ∷ []) ∷ []
onto x (p ∷ ps) = (x ∷ p) ∷ ps

abbrev pub pieces : ℕ → List ℕ → List (List ℕ)
pieces b [] = [] ∷ []
pieces b (x ∷ s) = cond (eqb x b) ([] ∷ pieces b s) (onto x (pieces b s))

abbrev pub is_empty : {A : Type 0} → List A → Bool
is_empty [] = true
is_empty (x ∷ xs) = false

-- the same bytes
abbrev pub same_bytes : List ℕ → List ℕ → Bool
same_bytes = pointwise eqb

-- the bytes before the first byte b
abbrev pub before : ℕ → List ℕ → List ℕ
before b [] = []
before b (x ∷ s) = cond (eqb x b) [] (x ∷ before b s)
