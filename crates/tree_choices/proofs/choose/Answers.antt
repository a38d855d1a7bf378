-- `choose` meets its contract: what the first tree takes is found; while seeking, `other_choice`
-- decides.
use mathlib.Core.Bool.{false}
use Rattle.grammar.specs.Choices.{Preferred}
use Rattle.grammar.specs.Content.{rules_of}
use Rattle.grammar.specs.SpanSheet.{part}
use Rattle.grammar.specs.Sentences.{spelled}
use Rattle.grammar.proofs.ChoiceLaws.{preferred_choice}
use Rattle.tree_choices.proofs.PickLaws.{choice_near, chosen, charted}
use Rattle.tree_choices.proofs.choose.Goals as goal

pub step_of-requires : goal.step_of-requires
step_of-requires c =
    let a = c.args in
    let x : Preferred (rules_of a.g) a.a (part (spelled a.s) a.i a.n)
    c.preferred-taken.result.rule c.preferred-taken.result.left =
    rw (c.wide-start.ensures, c.wide-len.ensures) at c.preferred-taken.ensures in
    choice_near (charted c.requires.ready.0) _ a.i a.n _ _ c.requires.ready.1
    (preferred_choice _ _ _ _ _ x)

pub returns : goal.returns
returns c =
    let a = c.args in
    let x : Preferred (rules_of a.g) a.a (part (spelled a.s) a.i a.n)
    c.preferred-taken.result.rule c.preferred-taken.result.left =
    rw (c.wide-start.ensures, c.wide-len.ensures) at c.preferred-taken.ensures in
    chosen a.g false (preferred_choice _ _ _ _ _ x) (rw c.if-seeking.false x) c.step_of.ensures
