-- Each verdict excludes the others, so it is settled.
use mathlib.Core.Path.{◌≡◌, refl, sym, ◌∙◌}
use Prim.Native.Nat.{ℕ}
use Rattle.grammar.specs.Layout.{Word}
use Rattle.grammar.specs.Trees.{Rules, NoTree, OneTree, TwoTrees}
use Rattle.grammar.specs.Verdicts.{Holds}
use Rattle.grammar.specs.declared.Verdict.{Verdict}

module _ {g : Rules} {A : ℕ} {w : Word} where
  pub none_not_one : NoTree g A w → OneTree g A w → ⊥
  none_not_one n o = n.absent o.tree o.witness

  pub none_not_two : NoTree g A w → TwoTrees g A w → ⊥
  none_not_two n t = n.absent t.first t.witness₁

  pub one_not_two : OneTree g A w → TwoTrees g A w → ⊥
  one_not_two o t =
      t.differ (o.only t.first t.witness₁ ∙ sym (o.only t.second t.witness₂))

pub verdict_same : (g : Rules) (A : ℕ) (w : Word) (r r' : Verdict) → Holds r g A w → Holds r' g A w
    → r ≡ r'
verdict_same g A w Verdict.None Verdict.None h k = refl
verdict_same g A w Verdict.None Verdict.One h k = absurd (none_not_one h k)
verdict_same g A w Verdict.None Verdict.Two h k = absurd (none_not_two h k)
verdict_same g A w Verdict.One Verdict.None h k = absurd (none_not_one k h)
verdict_same g A w Verdict.One Verdict.One h k = refl
verdict_same g A w Verdict.One Verdict.Two h k = absurd (one_not_two h k)
verdict_same g A w Verdict.Two Verdict.None h k = absurd (none_not_two k h)
verdict_same g A w Verdict.Two Verdict.One h k = absurd (one_not_two k h)
verdict_same g A w Verdict.Two Verdict.Two h k = refl
