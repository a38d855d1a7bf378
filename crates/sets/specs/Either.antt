-- For inner functions: one of two bools.
use Rattle.std.specs.Prelude.{◌≡◌, Bool, true, false, ◌||◌, ◌⊎◌}

-- r is true where a or b is
pub record Either (a b r : Bool) : Type 0 where
  pub or : r ≡ (a || b)
  pub is : r ≡ true → (a ≡ true) ⊎ (b ≡ true)
  pub isnt : r ≡ false → (a ≡ false) × (b ≡ false)
