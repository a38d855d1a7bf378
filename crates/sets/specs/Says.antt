-- What a bool says of a statement.
use Rattle.std.specs.Prelude.{◌≡◌, Bool, true, false}

-- b is true where P holds, and false where it does not
pub record Says (b : Bool) (P : Type 0) : Type 0 where
  pub is : b ≡ true → P
  pub isnt : b ≡ false → P → ⊥
