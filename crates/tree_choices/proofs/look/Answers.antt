-- `look` meets its contract: by whether the nonterminal is in the set.
use mathlib.Core.Path.{sym, ◌∙◌}
use Rattle.tree_choices.specs.Picks.{seen, closed}
use Rattle.tree_view.proofs.Members.{member_says}
use Rattle.tree_choices.proofs.PickLaws.{choice_small, charted}
use Rattle.tree_choices.proofs.look.Goals as goal

pub has-requires : goal.has-requires
has-requires c = choice_small c.requires.ready.0.formed c.requires.has_choice

pub returns-then-has : goal.returns-then-has
returns-then-has c = seen (sym (member_says _ _ c.has.ensures) ∙ c.if-has.true)
    c.choose.ensures

pub pass-requires : goal.pass-requires
pass-requires c = record {
  charted = (charted c.requires.ready.0, c.requires.ready.1);
  a_bound = choice_small c.requires.ready.0.formed c.requires.has_choice;
}

pub returns : goal.returns
returns c = closed (sym (member_says _ _ c.has.ensures)
    ∙ c.if-has.false) c.pass.ensures.0 c.pass.ensures.1
