-- A line's fields, read one after the other: by a cursor, and by what is said of them.
use Rattle.std.specs.Prelude.{ℕ, List, [], ◌∷◌}
use Rattle.std.specs.Prelude.{Option, Some, None}

module _ {R : Type 0} (bad : R) where
  abbrev pub on_value : {X : Type 0} → Option X → (X → R) → R
  on_value (Some v) k = k v
  on_value None k = bad

  -- the first of the fields is one that `read` takes: what k says of it and of the fields behind it
  abbrev pub with_field : {X : Type 0} → (List ℕ → Option X) → List (List ℕ)
      → (X → List (List ℕ) → R) → R
  with_field read [] k = bad
  with_field read (f ∷ fs) k = on_value (read f) (λ v. k v fs)

  -- no field is left
  abbrev pub at_end_of : List (List ℕ) → R → R
  at_end_of [] r = r
  at_end_of (f ∷ fs) r = bad
