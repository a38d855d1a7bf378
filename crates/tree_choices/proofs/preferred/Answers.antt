-- `preferred` meets its contract: without a loop the first choice, else the low one.
use mathlib.Core.Path.{sym, ◌∙◌}
use Rattle.std.proofs.lemmas.Bool.{eqb-true, eqb-false}
use Rattle.sets.proofs.Basics.{not_zero}
use Rattle.grammar.specs.Choices.{straight, looping}
use Rattle.grammar.specs.Content.{rules_of}
use Rattle.grammar.specs.SpanSheet.{part}
use Rattle.grammar.specs.Sentences.{spelled}
use Rattle.tree_choices.proofs.PickLaws.{choice_small, first_of_next, none_of_none}
use Rattle.tree_choices.proofs.PickLaws.{next_some, next_at}
use Rattle.tree_choices.proofs.preferred.Goals as goal

pub unwrap-requires : goal.unwrap-requires
unwrap-requires c = next_some _ _ _ 0 0 c.next_choice.result c.next_choice.ensures
    (none_of_none c.requires.has_choice)

pub returns-then-is_empty : goal.returns-then-is_empty
returns-then-is_empty c =
    let a = c.args in
    let x = next_at (rules_of a.g) a.a (part (spelled a.s) a.start a.len) 0 0 _ _
    c.next_choice.ensures c.unwrap.ensures in
    straight (c.requires.ready.0.lent.flat
    (eqb-true _ _ (sym c.is_empty.ensures ∙ c.if-is_empty.true)))
    (first_of_next x)

pub low_choice-requires-clause-ready : goal.low_choice-requires-clause-ready
low_choice-requires-clause-ready c =
    let r = c.requires.ready.0 in
    (r, c.requires.ready.1, choice_small r.formed c.requires.has_choice)

pub low_choice-requires-clause-height_sheet : goal.low_choice-requires-clause-height_sheet
low_choice-requires-clause-height_sheet c =
    (c.requires.ready.0.lent.looping
    (not_zero _ (eqb-false _ _ (sym c.is_empty.ensures ∙ c.if-is_empty.false)))).1

pub returns : goal.returns
returns c = looping (c.requires.ready.0.lent.looping
    (not_zero _ (eqb-false _ _ (sym c.is_empty.ensures ∙ c.if-is_empty.false)))).0
    c.low_choice.ensures
