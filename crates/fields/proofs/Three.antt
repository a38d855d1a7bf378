-- What the methods for numbers answered, at a reader of fields that goes on with k.
use mathlib.Core.Path.{◌≡◌, refl, ◌∙◌}
use mathlib.Core.List.{List, [], ◌∷◌}
use Rattle.std.specs.Prelude.{Option, Some, None}
use Prim.Native.Nat.{ℕ}
use Rattle.fields.specs.Words.{numeral_of}
use Rattle.fields.specs.Fields.{on_value, with_field}
use Rattle.fields.specs.Three.{Three, with_third, with_second, with_first, three_of}

-- a reader that begins with three numbers
module _ {R : Type 0} (bad : R) (k : ℕ → ℕ → ℕ → List (List ℕ) → R) where
  abbrev pub with_three : List (List ℕ) → R
  with_three fs =
      with_field bad numeral_of fs λ x fs. with_field bad numeral_of fs λ y fs.
      with_field bad numeral_of fs (k x y)

  by_three : (fs : List (List ℕ))
      → with_three fs
      ≡ on_value bad (three_of fs) (λ t. k t.first t.second t.third t.rest)
  by_three [] = refl
  by_three (f ∷ fs) = first (numeral_of f) fs
    where
      got : Option Three → R
      got o = on_value bad o (λ t. k t.first t.second t.third t.rest)

      third : (x y : ℕ) (o : Option ℕ) (fs : List (List ℕ))
          → on_value bad o (λ z. k x y z fs) ≡ got (on_value None o (λ z. with_third x y z fs))
      third x y (Some z) fs = refl
      third x y None fs = refl

      second : (x : ℕ) (o : Option ℕ) (fs : List (List ℕ))
          → on_value bad o (λ y. with_field bad numeral_of fs (k x y))
          ≡ got (on_value None o (λ y. with_second x y fs))
      second x (Some y) [] = refl
      second x (Some y) (f ∷ fs) = third x y (numeral_of f) fs
      second x None fs = refl

      first : (o : Option ℕ) (fs : List (List ℕ))
          → on_value bad o (λ x. with_field bad numeral_of fs λ y fs.
          with_field bad numeral_of fs (k x y))
          ≡ got (on_value None o (λ x. with_first x fs))
      first (Some x) [] = refl
      first (Some x) (f ∷ fs) = second x (numeral_of f) fs
      first None fs = refl

  pub three_good : (fs : List (List ℕ)) (t : Three) → three_of fs ≡ Some t
      → with_three fs ≡ k t.first t.second t.third t.rest
  three_good fs t e = by_three fs ∙ rw e refl

  pub three_bad : (fs : List (List ℕ)) → three_of fs ≡ None → with_three fs ≡ bad
  three_bad fs e = by_three fs ∙ rw e refl
