-- What a grammar and a sentence hold, and what the readers of the two sheets see to.
use Rattle.std.specs.Prelude.{◌≡◌, ◌≤◌, ◌<◌, length, take}
use Rattle.grammar.specs.declared.Rule.{Rule}
use Rattle.grammar.specs.declared.Clause.{Clause}
use Rattle.grammar.specs.declared.Grammar.{Grammar}
use Rattle.grammar.specs.declared.Sentence.{Sentence}
use Rattle.grammar.specs.Layout.{Every}
use Rattle.grammar.specs.Trees.{Rules}
use Rattle.grammar.specs.Candidates.{Rising}
use Rattle.grammar.specs.Sentences.{spelled}
use Rattle.grammar.specs.Distinct.{Distinct}

-- the rules of a grammar: the first `count`
abbrev pub rules_of : Grammar → Rules
rules_of g = take g.count g.rules

-- nonterminals and terminals are 0 to 63
abbrev pub SmallClause : Clause → Type 0
SmallClause Clause.Empty = Unit {0}
SmallClause (Clause.Atom a b) = (a < 64) × (b < 64)
SmallClause (Clause.Unary B m) = B < 64
SmallClause (Clause.Binary B C m) = (B < 64) × (C < 64)

pub record SmallRule (r : Rule) : Type 0 where
  pub left : r.left < 64
  pub clause : SmallClause r.clause

-- at most 128 rules, their numbers in range, no two alike
pub record Formed (g : Grammar) : Type 0 where
  pub few : g.count ≤ 128
  pub whole : length (rules_of g) ≡ g.count
  pub small : Every SmallRule (rules_of g)
  pub distinct : Distinct (rules_of g)

-- at most 64 tokens, each after the one before
pub record Positioned (s : Sentence) : Type 0 where
  pub few : s.count ≤ 64
  pub whole : length (spelled s) ≡ s.count
  pub rising : Rising (spelled s)
