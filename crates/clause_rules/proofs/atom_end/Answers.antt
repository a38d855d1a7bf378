-- `atom_end` meets its contract.
use mathlib.Core.Path.{sym, ap, ◌∙◌}
use Rattle.clause_rules.specs.declared.Role.{Role}
use Rattle.clause_rules.specs.Roles.{role_number}
use Rattle.clause_rules.proofs.Roles.{same_role}
use Rattle.clause_rules.proofs.Parts.{atom_ends_open, atom_ends_leaf}
use Rattle.clause_rules.proofs.atom_end.Goals as goal

pub returns-in-Open : goal.returns-in-Open
returns-in-Open c =
    atom_ends_open _ _ _ c.lexeme_at-x.ensures _
    (sym c.role_of.ensures ∙ ap role_number c.in-Open.is) c.group_end.ensures

pub returns : goal.returns
returns c = atom_ends_leaf _ _ _ c.lexeme_at-x.ensures
    (λ y. c.in_default.not-Open (same_role _ Role.Open (c.role_of.ensures ∙ y)))
