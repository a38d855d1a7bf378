-- Where the lay stands, and the changed sheet put together from the bytes before it, the new lay
-- and the bytes behind it.
use mathlib.Core.Path.{◌≡◌, ap, ◌∙◌}
use mathlib.Core.List.{List, ◌++◌, append_assoc}
use Prim.Native.Nat.{ℕ, ◌+◌, ◌-◌, ◌≤◌, ◌<◌}
use native.Mathlib.Nat.{zero-add}
use native.Mathlib.Omega.{arith}
use lib.ListN.{length, take, drop, length-append, length-drop}
use lib.Seq.{length-take-le, take_all}
use Rattle.fields.specs.declared.Cursor.{Cursor}
use Rattle.fields.specs.Pieces.{pieces, before}
use Rattle.fields.proofs.Pieces.{before_take, before_le}
use Rattle.sheets.specs.RefusedLines.{piece_start}
use Rattle.std.specs.Prelude.{Option}
use Rattle.lists.specs.Lists.{GivesList}
use Rattle.lists.specs.Putting.{listed, unfit}
use Rattle.mark_change.specs.Changed.{line_of, lay_start, lay_end, changed}
use Rattle.mark_change.proofs.Replacing.{piece_at, piece_before}
use Rattle.fields.specs.Cursors.{line_at}

-- 1. the line of the rule at place p

module _ (s : List ℕ) (p : ℕ) (here : p < length (pieces 10 s)) where
  pub start_in : piece_start (pieces 10 s) p ≤ length s
  start_in = (piece_at 10 p s here).within

  module _ {at : ℕ} (is : at ≡ piece_start (pieces 10 s) p) where
    line_before : before 10 (drop at s) ≡ line_of s p
    line_before = rw is (piece_before 10 p s here)

    module _ {c : Cursor} (line : c ≡ line_at s at) where
      pub line_ends : c.end ≡ lay_end s p
      line_ends = omega (arith, ap (λ (x : Cursor). x.end) line, ap length line_before)

      pub line_starts : at ≤ c.end
      line_starts = omega (arith, line_ends)

      pub line_within : c.end ≤ length s
      line_within = omega (
        arith,
        ap (λ (x : Cursor). x.end) line,
        before_le 10 (drop at s),
        length-drop at s,
        start_in,
      )

      pub line_bytes : take (c.end - at) (drop at s) ≡ line_of s p
      line_bytes =
          let k : c.end - at ≡ length (before 10 (drop at s)) =
          omega (arith, ap (λ (x : Cursor). x.end) line) in
          rw k (before_take 10 (drop at s) ∙ line_before)

  -- 2. the lay's place

  module _ (five : 4 < length (pieces 32 (line_of s p))) where
    pub lay_rises : lay_start s p ≤ lay_end s p
    lay_rises = omega (arith, (piece_at 32 4 (line_of s p) five).within)

    pub lay_within : lay_end s p ≤ length s
    lay_within =
        let a = piece_at 10 p s here in
        omega (
          arith,
          ap length a.at,
          length-append (line_of s p) a.rest,
          length-drop
              (piece_start (pieces 10 s) p) s,
          a.within,
        )

    pub changed_long : (lay : List ℕ)
        → length (changed s p lay) ≡ length lay + (lay_start s p + (length s - lay_end s p))
    changed_long lay =
        omega (
          arith,
          length-append (take (lay_start s p) s) (lay ++ drop (lay_end s p) s),
          length-append lay (drop (lay_end s p) s),
          length-take-le (lay_start s p) s (omega (arith, lay_rises, lay_within)),
          length-drop (lay_end s p) s,
        )

-- 3. the list

-- the bytes from a place on
tail_all : (s : List ℕ) (end : ℕ) → take (length s - end) (drop end s) ≡ drop end s
tail_all s end = take_all (length s - end) (drop end s) (omega (arith, length-drop end s))

-- three parts put one after the other are one list, an entry a byte
gives_three : {lent lent' : List ℕ} {r : Option ℕ} (a b c : List ℕ)
    → GivesList listed unfit ((a ++ b) ++ c) (length a + length b + length c) lent lent' r
    → GivesList listed unfit (a ++ (b ++ c)) (length (a ++ (b ++ c))) lent lent' r
gives_three a b c g =
    let n : length (a ++ (b ++ c)) ≡ length a + length b + length c =
    omega (arith, length-append a (b ++ c), length-append b c) in
    rw (n, ← append_assoc a b c) g

-- the changed sheet: the bytes before the lay, the new lay, those behind it
pub gives_changed : (s : List ℕ) (p : ℕ) (lay : List ℕ) {start end : ℕ} {lent lent' : List ℕ}
    {r : Option ℕ} → start ≡ lay_start s p → end ≡ lay_end s p
    → GivesList listed unfit ((take start s ++ lay) ++ take (length s - end) (drop end s))
    (0 + length (take start s) + length lay + length (take (length s - end) (drop end s))) lent
    lent' r → GivesList listed unfit (changed s p lay) (length (changed s p lay)) lent lent'
    r
gives_changed s p lay {start} {end} e f g =
    let h = rw (zero-add (length (take start s)), tail_all s end) at g in
    gives_three (take (lay_start s p) s) lay (drop (lay_end s p) s) (rw (e, f) at h)
