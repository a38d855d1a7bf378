-- `other_choice` meets its contract: the first choice, where that is another; else what `after`
-- finds.
use mathlib.Core.Path.{sym, ◌∙◌, subst₂}
use mathlib.Core.Bool.{false}
use Rattle.grammar.specs.Choices.{FirstChoice}
use Rattle.grammar.specs.Content.{rules_of}
use Rattle.grammar.specs.SpanSheet.{part}
use Rattle.grammar.specs.Sentences.{spelled}
use Rattle.grammar.proofs.ChoiceLaws.{preferred_choice}
use Rattle.tree_choices.proofs.PickLaws.{choice_near, chosen, other_of_first, first_of_next}
use Rattle.tree_choices.proofs.PickLaws.{none_of_none, next_some, next_at, differ, agree}
use Rattle.tree_choices.proofs.other_choice.Goals as goal

pub unwrap-first-requires : goal.unwrap-first-requires
unwrap-first-requires c =
    next_some _ _ _ 0 0 c.next_choice.result c.next_choice.ensures
    (none_of_none (_, _, preferred_choice _ _ _ _ _ c.requires.preferred))

pub step_of-requires : goal.step_of-requires
step_of-requires c =
    let a = c.args in
    let x = next_at (rules_of a.g) a.a (part (spelled a.s) a.start a.len) 0 0 _ _
    c.next_choice.ensures c.unwrap-first.ensures in
    choice_near c.requires.charted.0 a.a a.start a.len _ _ c.requires.charted.1 x.choice

pub returns-then-ne : goal.returns-then-ne
returns-then-ne c =
    let a = c.args in
    let x = next_at (rules_of a.g) a.a (part (spelled a.s) a.start a.len) 0 0 _ _
    c.next_choice.ensures c.unwrap-first.ensures in
    chosen a.g false x.choice (
      _,
      _,
      c.requires.preferred,
      other_of_first x
          (differ _ _ _ _ (sym c.ne.ensures ∙ c.if-ne.true)),
    ) c.step_of.ensures

pub after-requires-clause-first_choice : goal.after-requires-clause-first_choice
after-requires-clause-first_choice c =
    let a = c.args in
    let x = next_at (rules_of a.g) a.a (part (spelled a.s) a.start a.len) 0 0 _ _
    c.next_choice.ensures c.unwrap-first.ensures in
    let e = agree _ _ _ _ (sym c.ne.ensures ∙ c.if-ne.false) in
    subst₂ (FirstChoice (rules_of a.g) a.a (part (spelled a.s) a.start a.len)) e.0 e.1
    (first_of_next x)
