-- A choice by a test whose outcome is known.
use mathlib.Core.Path.{◌≡◌, refl}
use mathlib.Core.Bool.{Bool, true, false, cond, ◌&&◌}

module _ {A : Type 0} {b : Bool} where
  pub hit : b ≡ true → (x y : A) → cond b x y ≡ x
  hit e x y = rw e

  pub skip : b ≡ false → (x y z : A) → y ≡ z → cond b x y ≡ z
  skip e x y z k = rw e k

  pub into : b ≡ true → (x y z : A) → x ≡ z → cond b x y ≡ z
  into e x y z k = rw e k

  pub miss : b ≡ false → (x y : A) → cond b x y ≡ y
  miss e x y = rw e

pub and_true : {a : Bool} → a ≡ true → (b r : Bool) → b ≡ r → a && b ≡ r
and_true e b r k = rw e k

pub and_false : {a : Bool} → a ≡ false → (b : Bool) → a && b ≡ false
and_false e b = rw e

-- Q holds of a choice if it holds of each side, where the test comes out so
pub either : {A : Type 0} (Q : A → Type 0) (b : Bool) {x y : A} → (b ≡ true → Q x)
    → (b ≡ false → Q y) → Q (cond b x y)
either Q true f g = f refl
either Q false f g = g refl
