-- Tokens whose columns are known between two ends, and what some choice of columns within them
-- gives: docs/FORMAT.md, "The range sheet".
use Rattle.std.specs.Prelude.{◌≡◌, List, [], ◌∷◌, ℕ, ◌+◌, ◌-◌, ◌*◌, ◌≤◌}
use Rattle.grammar.specs.declared.Token.{Token}
use Rattle.grammar.specs.Layout.{Word, line, col, width}
use Rattle.grammar.specs.Trees.{Rules}
use Rattle.grammar.specs.Candidates.{Rising}
use Rattle.grammar.specs.declared.Verdict.{Verdict}
use Rattle.column_ranges.specs.declared.RangeToken.{RangeToken}
use Rattle.grammar.specs.Verdicts.{Holds}

-- the tokens of a range sheet
abbrev pub Ranges : Type 0
Ranges = List RangeToken

-- t is r in a column within its ends; its width is 1
pub record WithinEnds (r : RangeToken) (t : Token) : Type 0 where
  pub terminal : t.terminal ≡ r.terminal
  pub line : line t ≡ r.line.0
  pub low : r.low.0 ≤ col t
  pub high : col t ≤ r.high.0
  pub width : width t ≡ 1

-- w is a choice of columns within the ends, whether its positions rise or not
abbrev pub Chosen : Ranges → Word → Type 0
Chosen [] [] = Unit {0}
Chosen [] (t ∷ w) = ⊥
Chosen (r ∷ rs) [] = ⊥
Chosen (r ∷ rs) (t ∷ w) = WithinEnds r t × Chosen rs w

-- some choice of columns within the ends, with positions properly rising, gives the verdict v
pub record SomeChoiceGives (g : Rules) (rs : Ranges) (v : Verdict) : Type 0 where
  pub word : Word
  pub chosen : Chosen rs word
  pub rising : Rising word
  pub verdict : Holds v g 0 word

-- how many columns the ends of r allow
abbrev pub columns : RangeToken → ℕ
columns r = r.high.0 + 1 - r.low.0

-- how many choices the ends allow, rising or not: one of no tokens
abbrev pub choice_count : Ranges → ℕ
choice_count [] = 1
choice_count (r ∷ rs) = columns r * choice_count rs

-- 49: more are refused
abbrev pub choice_limit : ℕ
choice_limit = 65536
