-- The readers that call each other meet their contracts.
use mathlib.Core.Path.{sym, ap, ◌∙◌}
use Rattle.clause_rules.specs.declared.Role.{Role}
use Rattle.clause_rules.specs.Roles.{role_number}
use Rattle.clause_rules.proofs.Roles.{same_role}
use Rattle.clause_rules.proofs.Parts.{group_read, leaf_read, bare_read, tailed_read}
use Rattle.clause_rules.proofs.Parts.{crowded_read, single_read, several_read, rest_several}
use Rattle.clause_rules.proofs.Parts.{rest_single, last_read, more_read}
use Rattle.clause_rules.proofs.+alternatives_atom_item_rest_sequence.Goals as goal

pub alternatives-returns-in-Bar : goal.alternatives-returns-in-Bar
alternatives-returns-in-Bar t c =
    more_read _ _ _ _ _ c.sequence-a.ensures _ c.push-q.ensures _ c.lexeme_at-x.ensures _
    (sym c.role_of.ensures ∙ ap role_number c.in-Bar.is) c.alternatives.ensures

pub alternatives-returns : goal.alternatives-returns
alternatives-returns t c =
    last_read _ _ _ _ _ c.sequence-a.ensures _ c.push-q.ensures _ c.lexeme_at-x.ensures
    (λ y. c.in_default.not-Bar (same_role _ Role.Bar (c.role_of.ensures ∙ y)))

pub atom-returns-in-Open : goal.atom-returns-in-Open
atom-returns-in-Open t c =
    group_read _ _ _ _ c.lexeme_at-x.ensures _ _ _
    (sym c.role_of.ensures ∙ ap role_number c.in-Open.is)
    (c.fresh-o.ensures c.args.rules.now) c.alternatives-r.ensures c.lexeme_at-y.ensures

pub atom-returns : goal.atom-returns
atom-returns t c =
    leaf_read _ _ _ _ c.lexeme_at-x.ensures _
    (λ y. c.in_default.not-Open (same_role _ Role.Open (c.role_of.ensures ∙ y)))
    c.leaf.ensures

pub item-returns-then-o : goal.item-returns-then-o
item-returns-then-o t c =
    crowded_read _ _ _ c.atom_end-e.ensures _ c.lexeme_at-x.ensures _ _ _
    (sym c.role_of.ensures ∙ ap role_number c.in-Suffix.is) c.requires
    (c.opened-o.ensures c.args.rules.now) c.if-o.true

pub item-returns-in-Suffix : goal.item-returns-in-Suffix
item-returns-in-Suffix t c =
    tailed_read _ _ _ c.atom_end-e.ensures _ c.lexeme_at-x.ensures _ _ _ _
    (sym c.role_of.ensures ∙ ap role_number c.in-Suffix.is) (c.opened-o.ensures c.args.rules.now)
    c.atom-a.ensures c.tail-q.ensures

pub item-returns : goal.item-returns
item-returns t c =
    bare_read _ _ _ c.atom_end-e.ensures _ c.lexeme_at-x.ensures _ _
    (λ y. c.in_default.not-Suffix (same_role _ Role.Suffix (c.role_of.ensures ∙ y))) c.atom.ensures

pub rest-returns-in-Join : goal.rest-returns-in-Join
rest-returns-in-Join t c =
    rest_several _ _ _ c.item_end-e.ensures _ c.lexeme_at-x.ensures _ _
    (sym c.role_of.ensures ∙ ap role_number c.in-Join.is) c.sequence.ensures

pub rest-returns : goal.rest-returns
rest-returns t c =
    rest_single _ _ _ c.item_end-e.ensures _ c.lexeme_at-x.ensures _ _
    (λ y. c.in_default.not-Join (same_role _ Role.Join (c.role_of.ensures ∙ y))) c.item.ensures

pub sequence-returns-in-Join : goal.sequence-returns-in-Join
sequence-returns-in-Join t c =
    several_read _ _ _ _ (c.fresh-o.ensures c.args.rules.now) _ c.item-i.ensures _
    c.lexeme_at-x.ensures _ _ (sym c.role_of.ensures ∙ ap role_number c.in-Join.is) c.rest-r.ensures
    c.binding.ensures c.push-w.ensures

pub sequence-returns : goal.sequence-returns
sequence-returns t c =
    single_read _ _ _ _ (c.fresh-o.ensures c.args.rules.now) _ c.item-i.ensures _
    c.lexeme_at-x.ensures _ (λ y. c.in_default.not-Join
    (same_role _ Role.Join (c.role_of.ensures ∙ y))) c.push-w-2.ensures
