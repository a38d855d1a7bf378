-- What the verdicts none, one and two say.
use Rattle.std.specs.Prelude.{ℕ}
use Rattle.grammar.specs.Layout.{Word}
use Rattle.grammar.specs.Trees.{Rules, NoTree, OneTree, TwoTrees}
use Rattle.grammar.specs.declared.Verdict.{Verdict}

-- none, one or two: A has no valid tree over w, just one, or at least two
abbrev pub Holds : Verdict → Rules → ℕ → Word → Type 0
Holds Verdict.None g A w = NoTree g A w
Holds Verdict.One g A w = OneTree g A w
Holds Verdict.Two g A w = TwoTrees g A w
