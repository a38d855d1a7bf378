-- What the search over narrowed ranges finds (inner: contracts of the functions that search).
use Rattle.std.specs.Prelude.{◌≡◌, Bool, true, false, List, ◌⊎◌, ℕ, ◌*◌, Option, Some, None}
use Rattle.grammar.specs.Trees.{Rules}
use Rattle.sets.specs.Sets.{In}
use Rattle.grammar.specs.SpanSheet.{pairs, first_word, second_word}
use Rattle.grammar.specs.declared.Verdict.{Verdict}
use Rattle.spans.specs.Changes.{Past}
use Rattle.column_ranges.specs.Ranges.{Ranges, SomeChoiceGives}
use Rattle.range_charts.specs.RangeCharts.{Small}
use Rattle.narrowing.specs.Narrowing.{MayRise, HasSeveral}
use Rattle.column_search.specs.declared.Flags.{Flags}
use Rattle.column_search.specs.Answers.{flag}

-- r is f with v besides
pub record With (f : Flags) (v : Verdict) (r : Flags) : Type 0 where
  pub set : flag r v ≡ true
  pub kept : (u : Verdict) → flag f u ≡ true → flag r u ≡ true
  pub given : (u : Verdict) → flag r u ≡ true → (flag f u ≡ true) ⊎ (u ≡ v)

-- flags that are set stay, and those that are set anew are of verdicts that some choice gives
pub record FlagsGiven (g : Rules) (rs : Ranges) (f r : Flags) : Type 0 where
  pub kept : (v : Verdict) → flag f v ≡ true → flag r v ≡ true
  pub given : (v : Verdict) → flag r v ≡ true → (flag f v ≡ true) ⊎ SomeChoiceGives g rs v

-- r has what any choice gives
pub record Finds (g : Rules) (rs : Ranges) (r : Flags) : Type 0 where
  pub all : (v : Verdict) → SomeChoiceGives g rs v → flag r v ≡ true

-- the pairs of single tokens and of the empty word are as they were, and so are the words past the
-- span sheet
pub record Leaving (n : ℕ) (ws ws' : List ℕ) : Type 0 where
  pub small : Small ws ws' n
  pub past : Past (2 * pairs n) ws ws'

-- what the search answers for the ranges, having found f before
pub record Searched (g : Rules) (rs : Ranges) (n : ℕ) (f : Flags) (ws ws' : List ℕ)
    (r : Flags) : Type 0 where
  pub grown : FlagsGiven g rs f r
  pub finds : Finds g rs r
  pub leaving : Leaving n ws ws'

-- o has what any choice gives
pub record Foreseen (g : Rules) (rs : Ranges) (n : ℕ) (ws ws' : List ℕ) (o : Flags) : Type 0 where
  pub finds : Finds g rs o
  pub leaving : Leaving n ws ws'

-- b says that f has it
pub record Idles (g : Rules) (rs : Ranges) (n : ℕ) (f : Flags) (ws ws' : List ℕ) (b : Bool) : Type
    0 where
  pub finds : b ≡ true → Finds g rs f
  pub leaving : Leaving n ws ws'

-- by the pair of the whole word, v is the verdict
abbrev pub Reads : List ℕ → ℕ → Verdict → Type 0
Reads ws n Verdict.None = In (first_word ws n 0 n) 0 → ⊥
Reads ws n Verdict.One = In (first_word ws n 0 n) 0 × (In (second_word ws n 0 n) 0 → ⊥)
Reads ws n Verdict.Two = In (second_word ws n 0 n) 0

-- b says of the ranges that nothing new can come: each verdict is found, or no choice rises; else
-- some may
pub record Leaves (rs : Ranges) (f : Flags) (b : Bool) : Type 0 where
  pub leave : b ≡ true → ((v : Verdict) → flag f v ≡ true) ⊎ (MayRise rs → ⊥)
  pub stay : b ≡ false → MayRise rs

-- p is a token with several columns, if it is one at all
abbrev pub Opens : Ranges → Option ℕ → Type 0
Opens rs (Some p) = HasSeveral rs p
Opens rs None = Unit {0}
