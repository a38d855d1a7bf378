-- The bytes of a list's entries: one entry more, and all of one width.
use mathlib.Core.Path.{◌≡◌, sym, ap, ◌∙◌}
use mathlib.Core.List.{List, [], ◌∷◌, ◌++◌, append-nil, append_assoc}
use Prim.Native.Nat.{ℕ, ◌*◌}
use native.Mathlib.Nat.{mul-suc}
use native.Mathlib.Omega.{arith}
use lib.ListN.{length, length-append}
use Rattle.lists.specs.Lists.{bytes_of}

pub bytes_snoc : {A : Type 0} (entry : A → List ℕ) (l : List A) (a : A)
    → bytes_of entry (l ++ (a ∷ [])) ≡ bytes_of entry l ++ entry a
bytes_snoc entry [] a = append-nil (entry a)
bytes_snoc entry (b ∷ l) a =
    ap (λ (x : List ℕ). entry b ++ x) (bytes_snoc entry l a)
    ∙ sym (append_assoc (entry b) (bytes_of entry l) (entry a))

pub bytes_length : {A : Type 0} (entry : A → List ℕ) (w : ℕ) → ((a : A) → length (entry a) ≡ w)
    → (l : List A) → length (bytes_of entry l) ≡ w * length l
bytes_length entry w h [] = omega arith
bytes_length entry w h (a ∷ l) =
    omega (
      arith,
      length-append (entry a) (bytes_of entry l),
      h a,
      bytes_length entry w h l,
      mul-suc
          w (length l),
    )
