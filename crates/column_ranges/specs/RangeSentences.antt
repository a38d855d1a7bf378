-- What the code holds of tokens with ends for their columns, and counts of their choices (for inner
-- functions).
use Rattle.std.specs.Prelude.{length, get_or, take, ◌≤◌, ℕ, ◌<◌, ◌≡◌}
use Rattle.column_ranges.specs.declared.RangeSentence.{RangeSentence}
use Rattle.column_ranges.specs.Ranges.{Ranges, choice_count, choice_limit}
use Rattle.column_ranges.specs.declared.RangeToken.{RangeToken}
use Rattle.grammar.specs.Layout.{Every}

-- the first `count` of the tokens
abbrev pub ranges_of : RangeSentence → Ranges
ranges_of s = take s.count s.tokens

-- what refusals 13 and 48 see to: ends in the order of their names, and a column's bounds
pub record EndsOrdered (r : RangeToken) : Type 0 where
  pub ordered : r.low.0 ≤ r.high.0
  pub least : 1 ≤ r.low.0
  pub most : r.high.0 ≤ 65535

-- at most 64 tokens, each with its ends
pub record Spread (s : RangeSentence) : Type 0 where
  pub few : s.count ≤ 64
  pub whole : length (ranges_of s) ≡ s.count
  pub ended : Every EndsOrdered (ranges_of s)

-- m counts the choices, where they are within the limit; otherwise it is above the limit as they
-- are
pub record CountsChoices (rs : Ranges) (m : ℕ) : Type 0 where
  pub exact : m ≤ choice_limit → m ≡ choice_count rs
  pub over : choice_limit < m → choice_limit < choice_count rs

-- what stands past the end of ranges
abbrev pub no_range : RangeToken
no_range = record {
  terminal = 0;
  line = record { 0 = 0 };
  low = record { 0 = 0 };
  high = record
      { 0 = 0 };
}

-- the range at i
abbrev pub range : Ranges → ℕ → RangeToken
range rs i = get_or rs i no_range
