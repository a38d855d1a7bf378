-- What a span of ranges leaves to a rule (inner: contracts of the functions that fill a span sheet
-- for ranges).
use Rattle.std.specs.Prelude.{◌≡◌, [], ◌∷◌, Bool, ◌↔◌, ℕ, ◌+◌, ◌≤◌, ◌<◌, length, set}
use Rattle.sets.specs.Sets.{In}
use Rattle.sets.specs.Says.{Says}
use Rattle.grammar.specs.declared.UnaryMark.{UnaryMark}
use Rattle.grammar.specs.declared.BinaryMark.TheVariants as BinaryMark
use Rattle.grammar.specs.Layout.{Word}
use Rattle.marks.specs.declared.SpanMarks.{SpanMarks}
use Rattle.marks.specs.Half.{Half, MayKeep, MayPair}
use Rattle.marks.specs.Marked.{UnaryBy, Included, Joined, alone}
use Rattle.column_ranges.specs.declared.RangeToken.{RangeToken}
use Rattle.column_ranges.specs.Ranges.{Ranges}
use Rattle.column_ranges.specs.RangeSentences.{range}
use Rattle.narrowing.specs.Narrowing.{low_token, high_token}

-- a word of which all is known
abbrev pub whole : Word → Half
whole w = record { word = w; known = length w }

-- a column within the ends of both
pub record Overlap (a b : RangeToken) : Type 0 where
  pub low : a.low.0 ≤ b.high.0
  pub high : b.low.0 ≤ a.high.0

-- the choice of all highest columns
abbrev pub highest : Ranges → Word
highest [] = []
highest (r ∷ rs) = high_token r ∷ highest rs

-- the token at s in its lowest column, all others in their highest: the columns in which a mark
-- that asks the first token's column to be less holds if it holds in any
abbrev pub seen_from : Ranges → ℕ → Word
seen_from rs s = set (highest rs) s (low_token (range rs s))

-- the marks of one token
abbrev pub first_of : RangeToken → SpanMarks
first_of t = alone t.terminal t.low

-- r is k with the align set x
abbrev pub aligned : SpanMarks → ℕ → SpanMarks
aligned k x = record {
  first = k.first;
  least = k.least;
  single = k.single;
  align = x;
  indent = k.indent;
  terminal = k.terminal;
}

-- r is the marks k of l tokens from a to z with the token t after them
pub record Stretched (k : SpanMarks) (a z t : RangeToken) (l : ℕ) (r : SpanMarks) : Type 0 where
  pub next : SpanMarks
  pub joined : Joined k l (low_token a) (high_token z) (high_token t) next
  pub same : r ≡ aligned next r.align
  pub flag : Bool
  pub says : Says flag (Overlap a t)
  pub align : Included k.align l flag r.align

-- k is the marks of the span of len tokens from s on: what may hold of some columns within the ends
pub record RangeMarked (rs : Ranges) (s len : ℕ) (k : SpanMarks) : Type 0 where
  pub unary : (m : UnaryMark) → UnaryBy k m ↔ MayKeep m (whole (seen_from rs s)) s len
  pub align : (l : ℕ) → 0 < l → l < len → In k.align l ↔ Overlap (range rs s) (range rs (s + l))
  pub indent : (l : ℕ) → 0 < l → l < len
      → In k.indent l ↔ MayPair BinaryMark.Indent (whole (seen_from rs s)) s l 1

-- r with its ends exchanged: what may hold of them must hold of all columns within the ends of r
abbrev pub exchanged : RangeToken → RangeToken
exchanged r = record { terminal = r.terminal; line = r.line; low = r.high; high = r.low }

abbrev pub exchanged_all : Ranges → Ranges
exchanged_all [] = []
exchanged_all (r ∷ rs) = exchanged r ∷ exchanged_all rs
