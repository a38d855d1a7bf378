-- A line as a cursor has it, against the pieces of the sheet.
use mathlib.Core.Path.{◌≡◌, refl, sym}
use mathlib.Core.List.{List, [], ◌∷◌}
use mathlib.Core.Bool.{Bool, true, false, not}
use Prim.Native.Nat.{ℕ, zero, suc, ◌+◌, ◌-◌, ◌≤◌}
use native.Mathlib.Nat.{suc-sub-suc, sub-zero}
use native.Mathlib.Numerals.{add-one}
use native.Mathlib.Omega.{arith}
use lib.ListN.{length, take, drop}
use lib.Seq.{length-take-le, take-nil}
use lib.Dec.{leb, ltb}
use borrow.Author.Tests.{le-leb, leb-true}
use Rattle.fields.specs.declared.Cursor.{Cursor}
use Rattle.fields.specs.Pieces.{pieces, is_empty}
use Rattle.fields.proofs.Pieces.{from_step, cut_high, cut_step}
use Rattle.fields.specs.Cursors.{pieces_from, line_at, bytes_left, fields_left}

drop_take : (at e : ℕ) (s : List ℕ) → drop at (take e s) ≡ take (e - at) (drop at s)
drop_take zero e s = rw (sub-zero e) refl
drop_take (suc at) zero s = let z : 0 - suc at ≡ 0 = omega arith in rw z refl
drop_take (suc at) (suc e) [] = rw (take-nil {A = ℕ} (suc e - suc at)) refl
drop_take (suc at) (suc e) (x ∷ s) = rw (suc-sub-suc e at) (drop_take at e s)

-- the fields left at a cursor are those of the bytes left
pub fields_of : (s : List ℕ) (c : Cursor) → c.at ≤ c.end → c.end ≤ length s
    → fields_left s c ≡ pieces 32 (bytes_left s c)
fields_of s c low high =
    rw (
      le-leb c.at (length (take c.end s)) (omega (arith, length-take-le c.end s high)),
      drop_take c.at c.end s,
    ) refl

-- a piece is left exactly where the place is not past the end
pub more_left : (b : ℕ) (s : List ℕ) (e : ℕ)
    → not (is_empty (pieces_from b s (e + 1))) ≡ ltb e (length s)
more_left b s e = go (leb (e + 1) (length s)) refl
  where
    go : (t : Bool) → leb (e + 1) (length s) ≡ t
        → not (is_empty (pieces_from b s (e + 1))) ≡ ltb e (length s)
    go true h = rw (from_step b s (e + 1) (leb-true (e + 1) (length s) h)) (sym (rw add-one at h))
    go false h = rw h (sym (rw add-one at h))

-- the line that begins at a place
module _ (s : List ℕ) (at : ℕ) (low : at ≤ length s) where
  pub line_high : (line_at s at).end ≤ length s
  line_high = cut_high 10 s at (line_at s at).end low refl

  pub line_low : at ≤ (line_at s at).end
  line_low = omega arith

  pub line_step : pieces_from 10 s at ≡ bytes_left s (line_at s at)
      ∷ pieces_from 10 s ((line_at s at).end + 1)
  line_step = cut_step 10 s at (line_at s at).end low refl
