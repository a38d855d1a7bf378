-- `after` meets its contract: what the search from just past the first choice finds is the second,
-- and where it finds nothing the first is the only one.
use mathlib.Core.Bool.{true, false}
use native.Mathlib.Omega.{arith}
use Rattle.grammar.proofs.ChoiceLaws.{preferred_choice}
use Rattle.tree_choices.proofs.PickLaws.{other_of_next, only_of_none, chosen, choice_near}
use Rattle.tree_choices.proofs.after.Goals as goal

pub overflow_add-from : goal.overflow_add-from
overflow_add-from c = omega (
  arith,
  choice_near c.requires.charted.0 _ c.args.start c.args.len _ _
      c.requires.charted.1 (preferred_choice _ _ _ _ _ c.requires.preferred),
)

pub step_of-requires : goal.step_of-requires
step_of-requires c =
    let o = other_of_next c.requires.first_choice c.in-Some.ensures in
    choice_near c.requires.charted.0 _ c.args.start c.args.len _ _ c.requires.charted.1 o.choice

pub step_of-requires-in-None : goal.step_of-requires-in-None
step_of-requires-in-None c = choice_near c.requires.charted.0 _ c.args.start c.args.len _ _
    c.requires.charted.1 (preferred_choice _ _ _ _ _ c.requires.preferred)

pub returns-in-Some : goal.returns-in-Some
returns-in-Some c =
    let o = other_of_next c.requires.first_choice c.in-Some.ensures in
    chosen c.args.g false o.choice (_, _, c.requires.preferred, o) c.step_of.ensures

pub returns-in-None : goal.returns-in-None
returns-in-None c =
    let o = only_of_none c.requires.first_choice c.in-None.ensures in
    chosen c.args.g true (preferred_choice _ _ _ _ _ c.requires.preferred) o
    c.step_of-in-None.ensures
