-- The last field of a rights line.
use mathlib.Core.Path.{◌≡◌, refl, sym, ap, ◌∙◌}
use mathlib.Core.List.{List, [], ◌∷◌, ◌++◌}
use mathlib.Core.Bool.{Bool, true, false, ◌&&◌}
use Rattle.std.specs.Prelude.{Some, None}
use Prim.Native.Nat.{ℕ, ◌≤◌, ◌<◌}
use lib.ListN.{length}
use lib.Dec.{eqb}
use borrow.Author.Tests.{eqb-false, ne_eqb}
use Rattle.fields.specs.declared.Cursor.{Cursor}
use Rattle.fields.specs.Pieces.{pieces, same_bytes}
use Rattle.fields.proofs.Pieces.{pieces_first}
use Rattle.fields.proofs.Lines.{fields_of}
use Rattle.fields.proofs.Fields.{left_none}
use Rattle.fields.proofs.Pick.{hit, skip, miss}
use Rattle.fields.proofs.Cuts.{FreeOf, Cut, whole, after, cut_of, pieces_free, pieces_cut}
use Rattle.rights.specs.RightLines.{may_of, last_of}
use Rattle.fields.specs.Cursors.{bytes_left, fields_left}

-- bytes with a blank are no word without one
blank_not : (u v w : List ℕ) → FreeOf 32 w → same_bytes (u ++ 32 ∷ v) w ≡ false
blank_not [] v [] h = refl
blank_not [] v (y ∷ w) h = rw (ne_eqb 32 y (λ e. eqb-false y 32 h.0 (sym e)))
blank_not (x ∷ u) v [] h = refl
blank_not (x ∷ u) v (y ∷ w) h = go (eqb x y) (blank_not u v w h.1)
  where
    go : (b : Bool) → same_bytes (u ++ 32 ∷ v) w ≡ false → b && same_bytes (u ++ 32 ∷ v) w ≡ false
    go true e = e
    go false e = refl

more_none : (u v : List ℕ) → last_of may_of (u ∷ pieces 32 v) ≡ None
more_none u v = rw (pieces_first 32 v)

blank_none : (u v : List ℕ) → may_of (u ++ 32 ∷ v) ≡ None
blank_none u v = rw (
  blank_not u v (115 ∷ 101 ∷ 101 ∷ []) (refl, (refl, (refl, tt))),
  blank_not u v
      (99 ∷ 104 ∷ 97 ∷ 110 ∷ 103 ∷ 101 ∷ []) (refl, (refl, (refl, (refl, (refl, (refl, tt)))))),
)

-- what is left is one field exactly where it has no blank
last_pieces : (b : List ℕ) → last_of may_of (pieces 32 b) ≡ may_of b
last_pieces b = go (cut_of 32 b)
  where
    go : {r : List ℕ} → Cut 32 r → last_of may_of (pieces 32 r) ≡ may_of r
    go (whole r f) = rw (pieces_free 32 r f)
    go (after u v f) = rw (pieces_cut 32 u v f) (more_none u v ∙ sym (blank_none u v))

module _ (s : List ℕ) (c : Cursor) (inside : c.end ≤ length s) where
  pub may_none : c.end < c.at → None ≡ last_of may_of (fields_left s c)
  may_none h = rw (left_none s c inside h)

  module _ (low : c.at ≤ c.end) where
    may_left : last_of may_of (fields_left s c) ≡ may_of (bytes_left s c)
    may_left = ap (last_of may_of) (fields_of s c low inside) ∙ last_pieces (bytes_left s c)

    pub may_see : true ≡ same_bytes (bytes_left s c) (115 ∷ 101 ∷ 101 ∷ [])
        → Some false ≡ last_of may_of (fields_left s c)
    may_see e = sym ((may_left ∙ hit (sym e) _ _))

    pub may_change : false ≡ same_bytes (bytes_left s c) (115 ∷ 101 ∷ 101 ∷ [])
        → true ≡ same_bytes (bytes_left s c) (99 ∷ 104 ∷ 97 ∷ 110 ∷ 103 ∷ 101 ∷ [])
        → Some true ≡ last_of may_of (fields_left s c)
    may_change e f = sym ((may_left ∙ skip (sym e) _ _ _ (hit (sym f) _ _)))

    pub may_not : false ≡ same_bytes (bytes_left s c) (115 ∷ 101 ∷ 101 ∷ [])
        → false ≡ same_bytes (bytes_left s c) (99 ∷ 104 ∷ 97 ∷ 110 ∷ 103 ∷ 101 ∷ [])
        → None ≡ last_of may_of (fields_left s c)
    may_not e f = sym ((may_left ∙ skip (sym e) _ _ _ (miss (sym f) _ _)))
