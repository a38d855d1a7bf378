-- Points numbered by rank. For the contracts of inner functions only.
use Rattle.std.specs.Prelude.{◌≡◌, List, [], ◌∷◌, Bool, true, false, ℕ, suc, ◌<◌, ltb}
use Rattle.pairs.specs.Settings.{start₁, cut₁, start₂, cut₂, Point, at, stop₁, stop₂}

-- how many of the numbers are less than x
abbrev pub bump : Bool → ℕ → ℕ
bump true n = suc n
bump false n = n

abbrev pub lower : List ℕ → ℕ → ℕ
lower [] x = 0
lower (y ∷ l) x = bump (ltb y x) (lower l x)

abbrev pub numbers_of : (Point → ℕ) → List ℕ
numbers_of f = f (at start₁) ∷ f (at cut₁) ∷ f (at start₂) ∷ f (at cut₂) ∷ f stop₁ ∷ f stop₂ ∷ []

-- each point has for its number how many points come before it: a number below 6
pub record Ranked (f : Point → ℕ) : Type 0 where
  pub small : (p : Point) → f p < 6
  pub rank : (p : Point) → lower (numbers_of f) (f p) ≡ f p
