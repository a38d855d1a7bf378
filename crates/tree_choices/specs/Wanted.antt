-- What a walk along a tree is given, and which tree it is asked for.
use Rattle.std.specs.Prelude.{◌≡◌, Bool, true, false, List, ℕ, ◌<◌, length}
use Rattle.grammar.specs.declared.Grammar.{Grammar}
use Rattle.grammar.specs.declared.Sentence.{Sentence}
use Rattle.grammar.specs.Layout.{Word}
use Rattle.grammar.specs.Trees.{Tree, Rules}
use Rattle.grammar.specs.Choices.{FirstTree, SecondTree}
use Rattle.grammar.specs.Content.{rules_of, Formed, Positioned}
use Rattle.grammar.specs.SpanSheet.{SpanSheet}
use Rattle.grammar.specs.Cycles.{Cyclic}
use Rattle.heights.specs.Least.{HeightSheet}
use Rattle.grammar.specs.Sentences.{spelled}

-- what both sheets gave, and the words that were filled from them
pub record Charted (g : Grammar) (s : Sentence) (ws : List ℕ) : Type 0 where
  pub formed : Formed g
  pub positioned : Positioned s
  pub sheet : SpanSheet (rules_of g) (spelled s) ws

-- the heights that are lent: none where the sheet has no loop, else the least heights of w
pub record LentHeights (g : Rules) (w : Word) (hs : List ℕ) : Type 0 where
  pub flat : length hs ≡ 0 → Cyclic g → ⊥
  pub looping : 0 < length hs → Cyclic g × HeightSheet g w hs

-- both
pub record Ready (g : Grammar) (s : Sentence) (ws hs : List ℕ) : Type 0 where
  pub formed : Formed g
  pub positioned : Positioned s
  pub sheet : SpanSheet (rules_of g) (spelled s) ws
  pub lent : LentHeights (rules_of g) (spelled s) hs

-- u is the first tree of A over w or, seeking, the second
abbrev pub Goal : Rules → ℕ → Word → Bool → Tree → Type 0
Goal g A w false u = FirstTree g A w u
Goal g A w true u = SecondTree g A w u

-- there is such a tree
pub record Wanted (g : Rules) (A : ℕ) (w : Word) (seeking : Bool) : Type 0 where
  pub tree : Tree
  pub goal : Goal g A w seeking tree
