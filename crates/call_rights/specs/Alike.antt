-- Sentences that a user cannot tell apart: "Trees that differ only beneath such rows are shown
-- alike". What a user learns is the verdict and the rows shown.
use Rattle.grammar.specs.Layout.{Word}
use Rattle.grammar.specs.Trees.{Tree, Rules, NoTree, OneTree, TwoTrees}
use Rattle.grammar.specs.Choices.{FirstTree, SecondTree}
use Rattle.tree_view.specs.Shown.{View}
use Rattle.tree_view.specs.Beneath.{OnlyBeneath}

-- the same verdict, and first and second trees that differ only beneath nodes that may not be seen;
-- the rules may be others
pub record Alike (sees : View) (g g' : Rules) (w w' : Word) : Type 0 where
  pub no_tree : NoTree g 0 w → NoTree g' 0 w'
  pub one_tree : OneTree g 0 w → OneTree g' 0 w'
  pub two_trees : TwoTrees g 0 w → TwoTrees g' 0 w'
  pub first : {t t' : Tree} → FirstTree g 0 w t → FirstTree g' 0 w' t' → OnlyBeneath sees t t'
  pub second : {u u' : Tree} → SecondTree g 0 w u → SecondTree g' 0 w' u' → OnlyBeneath sees u u'
