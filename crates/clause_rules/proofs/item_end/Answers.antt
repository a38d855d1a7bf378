-- `item_end` meets its contract.
use mathlib.Core.Path.{sym, ap, ◌∙◌}
use Rattle.clause_rules.specs.declared.Role.{Role}
use Rattle.clause_rules.specs.Roles.{role_number}
use Rattle.clause_rules.proofs.Roles.{same_role}
use Rattle.clause_rules.proofs.Parts.{item_ends_suffix, item_ends_bare}
use Rattle.clause_rules.proofs.item_end.Goals as goal

pub returns-in-Suffix : goal.returns-in-Suffix
returns-in-Suffix c =
    item_ends_suffix _ _ _ c.atom_end-e.ensures _
    c.lexeme_at-x.ensures (sym c.role_of.ensures ∙ ap role_number c.in-Suffix.is)

pub returns : goal.returns
returns c =
    item_ends_bare _ _ _ c.atom_end-e.ensures _
    c.lexeme_at-x.ensures (λ y. c.in_default.not-Suffix
    (same_role _ Role.Suffix (c.role_of.ensures ∙ y)))
