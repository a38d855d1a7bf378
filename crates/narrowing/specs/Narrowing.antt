-- Ranges that are narrowed, a token at a time (inner: contracts of the functions that narrow them).
use Rattle.std.specs.Prelude.{◌≡◌, [], ◌∷◌, ℕ, ◌+◌, ◌≤◌, ◌<◌, length, set, Option, Some, None}
use Rattle.grammar.specs.declared.Token.{Token}
use Rattle.grammar.specs.Layout.{Word}
use Rattle.grammar.specs.Candidates.{After}
use Rattle.column_ranges.specs.declared.RangeToken.{RangeToken}
use Rattle.column_ranges.specs.declared.RangeSentence.{RangeSentence}
use Rattle.column_ranges.specs.Ranges.{Ranges}
use Rattle.column_ranges.specs.RangeSentences.{range, ranges_of, Spread}

-- the token of r in the column x
abbrev pub standing : RangeToken → ℕ → Token
standing r x = record {
  terminal = r.terminal;
  line = r.line;
  column = record { 0 = x };
  width =
      record { 0 = 1 };
}

abbrev pub low_token : RangeToken → Token
low_token r = standing r r.low.0

abbrev pub high_token : RangeToken → Token
high_token r = standing r r.high.0

-- the choice of all lowest columns
abbrev pub lowest : Ranges → Word
lowest [] = []
lowest (r ∷ rs) = low_token r ∷ lowest rs

-- r has one column
abbrev pub Single : RangeToken → Type 0
Single r = r.low.0 ≡ r.high.0

-- so has each
pub record Singles (rs : Ranges) : Type 0 where
  pub each : (k : ℕ) → k < length rs → Single (range rs k)

-- so has each from the token at s on
pub record SinglesFrom (rs : Ranges) (s : ℕ) : Type 0 where
  pub each : (k : ℕ) → s ≤ k → k < length rs → Single (range rs k)

-- so has each before the token at s
pub record SinglesBefore (rs : Ranges) (s : ℕ) : Type 0 where
  pub each : (k : ℕ) → k < s → k < length rs → Single (range rs k)

-- each token in its highest column comes after the one before in its lowest: where one does not, no
-- choice rises
pub record MayRise (rs : Ranges) : Type 0 where
  pub each : (k : ℕ) → k + 1 < length rs
      → After (low_token (range rs k)) (high_token (range rs (k + 1)))

-- p is a token with several columns
pub record HasSeveral (rs : Ranges) (p : ℕ) : Type 0 where
  pub here : p < length rs
  pub several : (range rs p).low.0 < (range rs p).high.0

-- a token with several columns, if there is one
abbrev pub Picks : Ranges → Option ℕ → Type 0
Picks rs (Some p) = HasSeveral rs p
Picks rs None = Singles rs

-- p is the last token with several columns, which stands before `to`
pub record LastSeveral (rs : Ranges) (to p : ℕ) : Type 0 where
  pub one : HasSeveral rs p
  pub before : p < to
  pub behind : SinglesFrom rs (p + 1)

-- the last token with several columns, if there is one
abbrev pub PicksLast : Ranges → ℕ → Option ℕ → Type 0
PicksLast rs to (Some p) = LastSeveral rs to p
PicksLast rs to None = Singles rs

-- the first token with several columns, if there is one
abbrev pub PicksFirst : Ranges → Option ℕ → Type 0
PicksFirst rs (Some p) = HasSeveral rs p × SinglesBefore rs p
PicksFirst rs None = Singles rs

-- r in the column x alone
abbrev pub fixed : RangeToken → ℕ → RangeToken
fixed r x = record {
  terminal = r.terminal;
  line = r.line;
  low = record { 0 = x };
  high = record
      { 0 = x };
}

-- the ranges with the token at t in the column x
abbrev pub fixed_at : Ranges → ℕ → ℕ → Ranges
fixed_at rs t x = set rs t (fixed (range rs t) x)

-- s is r with the token at t in the column that stands c past its lower end
pub record Narrows (r : RangeSentence) (t c : ℕ) (s : RangeSentence) : Type 0 where
  pub count : s.count ≡ r.count
  pub spread : Spread s
  pub is : ranges_of s ≡ fixed_at (ranges_of r) t ((range (ranges_of r) t).low.0 + c)
