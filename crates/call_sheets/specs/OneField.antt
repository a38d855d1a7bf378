-- For inner functions: bytes that are one field of one line.
use Rattle.std.specs.Prelude.{Bool, true, false, cond, List, [], ◌∷◌, ℕ, eqb}

-- neither a blank nor a byte 10
abbrev pub one_field_of : List ℕ → Bool
one_field_of [] = true
one_field_of (x ∷ f) = cond (eqb x 32) false (cond (eqb x 10) false (one_field_of f))
