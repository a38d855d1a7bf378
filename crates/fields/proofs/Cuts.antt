-- Bytes without a byte b, and bytes cut at the first of them. Two lists that are the same bytes.
use mathlib.Core.Path.{◌≡◌, refl}
use mathlib.Core.List.{List, [], ◌∷◌, ◌++◌}
use mathlib.Core.Bool.{Bool, true, false, ◌&&◌}
use Prim.Native.Nat.{ℕ, ◌<◌}
use native.Mathlib.Omega.{arith}
use lib.ListN.{length}
use lib.Dec.{eqb}
use borrow.Author.Tests.{eq-eqb, eqb-true}
use Rattle.sets.proofs.Basics.{clash}
use Rattle.fields.specs.Pieces.{pieces, same_bytes}

-- b does not stand in the bytes
abbrev pub FreeOf : ℕ → List ℕ → Type 0
FreeOf b [] = Unit {0}
FreeOf b (x ∷ u) = (eqb x b ≡ false) × FreeOf b u

module _ (b : ℕ) where
  pub pieces_free : (u : List ℕ) → FreeOf b u → pieces b u ≡ u ∷ []
  pieces_free [] h = refl
  pieces_free (x ∷ u) h = rw (h.0, pieces_free u h.1)

  pub pieces_cut : (u v : List ℕ) → FreeOf b u → pieces b (u ++ b ∷ v) ≡ u ∷ pieces b v
  pieces_cut [] v h = rw (eq-eqb b b refl)
  pieces_cut (x ∷ u) v h = rw (h.0, pieces_cut u v h.1)

  -- the bytes have no b, or are cut at the first
  pub data Cut : List ℕ → Type 0 where
    whole : (s : List ℕ) → FreeOf b s → Cut s
    after : (u v : List ℕ) → FreeOf b u → Cut (u ++ b ∷ v)

  pub cut_of : (s : List ℕ) → Cut s
  cut_of [] = whole [] tt
  cut_of (x ∷ s) = go (eqb x b) refl (cut_of s)
    where
      go : (t : Bool) → eqb x b ≡ t → {r : List ℕ} → Cut r → Cut (x ∷ r)
      go true e {r} c = let z : x ≡ b = eqb-true x b e in rw z (after [] r tt)
      go false e (whole r h) = whole (x ∷ r) (e, h)
      go false e (after u v h) = after (x ∷ u) v (e, h)

  pub pieces_long : (s : List ℕ) → 0 < length (pieces b s)
  pieces_long s = go (cut_of s)
    where
      go : {r : List ℕ} → Cut r → 0 < length (pieces b r)
      go (whole r h) = rw (pieces_free r h) (omega arith)
      go (after u v h) = rw (pieces_cut u v h) (omega arith)

never : false ≡ true → ⊥
never e = clash cc

pub same_path : (u v : List ℕ) → same_bytes u v ≡ true → u ≡ v
same_path [] [] e = refl
same_path [] (y ∷ v) e = absurd (never e)
same_path (x ∷ u) [] e = absurd (never e)
same_path (x ∷ u) (y ∷ v) e = go (λ h. same_path u v h) (eqb x y) refl e
  where
    go : (same_bytes u v ≡ true → u ≡ v) → (t : Bool) → eqb x y ≡ t → t && same_bytes u v ≡ true
        → x ∷ u ≡ y ∷ v
    go again true h e = let p = eqb-true x y h in let q = again e in cc
    go again false h e = absurd (never e)
