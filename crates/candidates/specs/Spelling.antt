-- A candidate's sentence as an array of tokens: "the first on line 1, each next line 0, 1 or 2
-- further".
use Rattle.std.specs.Prelude.{◌≡◌, List, ℕ, ◌-◌, ◌≤◌, take, drop, replicate}
use Rattle.grammar.specs.declared.Cell.{Cell}
use Rattle.grammar.specs.declared.Token.{Token}
use Rattle.grammar.specs.declared.Sentence.{Sentence}
use Rattle.grammar.specs.Layout.{Every}
use Rattle.grammar.specs.Candidates.{sentence}
use Rattle.grammar.specs.Sentences.{no_token}

-- no step is above 2
abbrev pub LowSteps : List Cell → Type 0
LowSteps cs = Every (λ c. c.step ≤ 2) cs

-- of m token places the first n hold the sentence of the n cells cs, and those past them are 0
pub record Placed (cs : List Cell) (n m : ℕ) (tokens : List Token) : Type 0 where
  pub front : take n tokens ≡ sentence cs
  pub past : drop n tokens ≡ replicate (m - n) no_token

-- r holds the sentence of the n cells cs, and its token places past it are 0
pub record Spells (cs : List Cell) (n : ℕ) (r : Sentence) : Type 0 where
  pub count : r.count ≡ n
  pub front : take n r.tokens ≡ sentence cs
  pub past : drop n r.tokens ≡ replicate (64 - n) no_token
