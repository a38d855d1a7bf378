-- What a line is, by the tests that the code makes.
use mathlib.Core.Path.{◌≡◌, refl, sym}
use mathlib.Core.List.{List, [], ◌∷◌}
use mathlib.Core.Bool.{true, false}
use Prim.Native.Nat.{ℕ, ◌-◌, ◌≤◌, ◌<◌}
use native.Mathlib.Omega.{arith}
use lib.ListN.{length, drop, length-drop}
use lib.Seq.{length-take-le}
use lib.Dec.{ltb}
use borrow.Author.Tests.{lt-ltb, le-ltb, le-leb, lt-leb}
use Rattle.fields.specs.declared.Cursor.{Cursor}
use Rattle.fields.specs.Pieces.{is_empty}
use Rattle.lines.specs.declared.Turn.TheVariants as Turn
use Rattle.lines.specs.Turns.{turn_of}
use Rattle.fields.specs.Cursors.{bytes_left}

filled : (l : List ℕ) → 0 < length l → is_empty l ≡ false
filled [] h = absurd (omega arith)
filled (x ∷ l) h = refl

module _ (most n : ℕ) (line : List ℕ) where
  whole_many : most ≤ n → turn_of most n line true ≡ Turn.Many
  whole_many h = rw (le-leb most n h)

  whole_few : n < most → turn_of most n line true ≡ Turn.Whole
  whole_few h = rw (lt-leb most n h)

  open_end : line ≡ [] → turn_of most n line false ≡ Turn.End
  open_end e = rw e

  open_many : 0 < length line → most ≤ n → turn_of most n line false ≡ Turn.Many
  open_many l h = rw (filled line l, le-leb most n h)

  open_few : 0 < length line → n < most → turn_of most n line false ≡ Turn.Open
  open_few l h = rw (filled line l, lt-leb most n h)

-- the line of a cursor
module _ (s : List ℕ) (c : Cursor) (most n : ℕ) where
  pub ended_many : c.end < length s → most ≤ n
      → Turn.Many ≡ turn_of most n (bytes_left s c) (ltb c.end (length s))
  ended_many e h = sym (rw (lt-ltb c.end (length s) e) (whole_many most n (bytes_left s c) h))

  pub ended_few : c.end < length s → n < most
      → Turn.Whole ≡ turn_of most n (bytes_left s c) (ltb c.end (length s))
  ended_few e h = sym (rw (lt-ltb c.end (length s) e) (whole_few most n (bytes_left s c) h))

  module _ (last : length s ≤ c.end) where
    pub none_left : c.at ≡ c.end → Turn.End ≡ turn_of most n (bytes_left s c)
        (ltb c.end (length s))
    none_left e =
        let z : c.end - c.at ≡ 0 = omega arith in
        let b : bytes_left s c ≡ [] = rw z refl in
        sym (rw (le-ltb c.end (length s) last) (open_end most n (bytes_left s c) b))

    module _ (low : c.at ≤ c.end) (high : c.end ≤ length s)
        (some_left : c.at ≡ c.end → ⊥) where
      long : 0 < length (bytes_left s c)
      long = omega (
        arith,
        length-take-le (c.end - c.at) (drop c.at s)
            (omega (arith, length-drop c.at s)),
      )

      pub left_many : most ≤ n → Turn.Many ≡ turn_of most n (bytes_left s c) (ltb c.end (length s))
      left_many h =
          sym (rw (le-ltb c.end (length s) last) (open_many most n (bytes_left s c) long h))

      pub left_few : n < most → Turn.Open ≡ turn_of most n (bytes_left s c) (ltb c.end (length s))
      left_few h =
          sym (rw (le-ltb c.end (length s) last) (open_few most n (bytes_left s c) long h))
