-- Clear at every length, and when a sheet passes the test for it.
use Rattle.grammar.specs.Layout.{Word}
use Rattle.grammar.specs.Trees.{Rules, TwoTrees}
use Rattle.grammar.specs.Candidates.{Rising, Wide}
use Rattle.pairs.specs.Doubts.{Doubt, Doubted}

-- no sequence of tokens, of any length, none at all included, has two trees of 0: whatever its
-- terminals, lines, columns and widths, if it rises and each width is 1 or more
pub record AlwaysClear (g : Rules) : Type 0 where
  pub clear : (w : Word) → Rising w → Wide w → TwoTrees g 0 w → ⊥

-- a sheet passes the test if it has no doubt
pub record PassesTest (g : Rules) : Type 0 where
  pub passes : (d : Doubt) → Doubted g d → ⊥
