-- The span sheet of ranges: each span's pair is what follows, by the span's marks, from the pairs
-- of its parts (inner: contracts of the functions that fill it).
use Rattle.std.specs.Prelude.{◌≡◌, List, ◌⊎◌, ℕ, ◌+◌, ◌*◌, ◌≤◌, ◌<◌, length, get_or}
use Rattle.grammar.specs.Layout.{Word}
use Rattle.grammar.specs.Trees.{Rules}
use Rattle.grammar.specs.SpanSheet.{pairs, first_word, second_word}
use Rattle.marks.specs.declared.SpanMarks.{SpanMarks}
use Rattle.marks.specs.Marked.{UnaryBy}
use Rattle.spans.specs.Changes.{Past}
use Rattle.chart.specs.Leaves.{LeafAt}
use Rattle.chart.specs.Sheets.{Exact}
use Rattle.cuts.specs.declared.Pair.{Pair}
use Rattle.cuts.specs.Cuts.{Splits}
use Rattle.cuts.specs.Closure.{Closure}
use Rattle.chains.specs.SpanLinks.{span_links}
use Rattle.refilling.specs.Kept.{Mirrored, Suits}
use Rattle.column_ranges.specs.declared.RangeSentence.{RangeSentence}
use Rattle.column_ranges.specs.Ranges.{Ranges}
use Rattle.column_ranges.specs.RangeSentences.{range, ranges_of}
use Rattle.range_marks.specs.RangeMarks.{RangeMarked}

-- at most 64 tokens, whatever their ends
pub record CountFits (r : RangeSentence) : Type 0 where
  pub few : r.count ≤ 64
  pub whole : length (ranges_of r) ≡ r.count

-- the pair of a span
abbrev pub pair_of : List ℕ → ℕ → ℕ → ℕ → Pair
pair_of ws n s len = record { one = first_word ws n s len; two = second_word ws n s len }

-- the pair of the span of len tokens from s on is what stands by two shorter parts under the marks
-- k, and what follows from it by links
pub record Solved (ws : List ℕ) (g : Rules) (n s len : ℕ) (k : SpanMarks) : Type 0 where
  pub inner : Pair
  pub splits : Splits ws n s len k g inner
  pub closure : Closure (span_links g (UnaryBy k) (get_or ws 0 0) (get_or ws 1 0)) inner
      (pair_of ws n s len)

-- under the marks of the ranges
pub record SpanSolved (ws : List ℕ) (g : Rules) (rs : Ranges) (n s len : ℕ) : Type 0 where
  pub marks : SpanMarks
  pub marked : RangeMarked rs s len marks
  pub solved : Solved ws g n s len marks

-- so are all spans of two tokens or more that begin past s, those that begin at s and have fewer
-- than len tokens, and those that end at or before `from`
pub record SolvedFrom (ws : List ℕ) (g : Rules) (rs : Ranges) (n from s len : ℕ) : Type 0 where
  pub each : (a b : ℕ) → 2 ≤ b → a + b ≤ n → (s < a) ⊎ ((a ≡ s) × (b < len))
      → SpanSolved ws g rs n a b
  pub early : (a b : ℕ) → 2 ≤ b → a + b ≤ n → a + b ≤ from → SpanSolved ws g rs n a b

-- the pairs of the empty word and of single tokens are as they were
pub record Small (ws ws' : List ℕ) (n : ℕ) : Type 0 where
  pub first : (a b : ℕ) → a + b ≤ n → b < 2 → first_word ws' n a b ≡ first_word ws n a b
  pub second : (a b : ℕ) → a + b ≤ n → b < 2 → second_word ws' n a b ≡ second_word ws n a b

-- all spans that begin at or past s or end at or before `from` are solved
pub record Advances (ws ws' : List ℕ) (g : Rules) (rs : Ranges) (n from s : ℕ) : Type 0 where
  pub solved : SolvedFrom ws' g rs n from s (n + 1)
  pub small : Small ws ws' n
  pub past : Past (2 * pairs n) ws ws'

-- all spans are
pub record Solves (ws ws' : List ℕ) (g : Rules) (rs : Ranges) (n : ℕ) : Type 0 where
  pub each : (a b : ℕ) → 2 ≤ b → a + b ≤ n → SpanSolved ws' g rs n a b
  pub small : Small ws ws' n
  pub past : Past (2 * pairs n) ws ws'

-- rows, columns and the table of chains that are kept go with the sheet ws of n tokens
pub record Beside (g : Rules) (n : ℕ) (ws kept : List ℕ) : Type 0 where
  pub suits : Suits g ws kept
  pub mirrored : Mirrored g n ws kept

-- so they do, and the spans that begin at or past s or end at or before `from` are solved
pub record Behind (ws kept : List ℕ) (g : Rules) (rs : Ranges) (n from s : ℕ) : Type 0 where
  pub beside : Beside g n ws kept
  pub solved : SolvedFrom ws g rs n from s (n + 1)

-- the pairs of the empty word and of single tokens, which go by no column, are right
pub record Leaved (g : Rules) (rs : Ranges) (n : ℕ) (ws : List ℕ) : Type 0 where
  pub empty : (w : Word) → Exact g w n ws 0
  pub leaves : (i : ℕ) → i < n → LeafAt g n ws i (range rs i).terminal
