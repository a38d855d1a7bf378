-- `candidates::with_terminal` meets its contract, kind by kind.
use mathlib.Core.Path.{sym}
use Rattle.sets.proofs.Says.{true_not_false}
use Rattle.candidates.proofs.TerminalSets.{atom_small, widened_none, widened_range}
use Rattle.candidates.proofs.with_terminal.Goals as goal

pub with_range-requires : goal.with_range-requires
with_range-requires c =
    atom_small _ _ _ c.in-Atom.is c.requires

pub returns-in-Empty : goal.returns-in-Empty
returns-in-Empty c = widened_none _ _ (λ x e. true_not_false (sym (rw c.in-Empty.is at e)))

pub returns-in-Atom : goal.returns-in-Atom
returns-in-Atom c = widened_range _ _ _ _ _ c.in-Atom.is c.with_range.ensures

pub returns-in-Unary : goal.returns-in-Unary
returns-in-Unary c = widened_none _ _ (λ x e. true_not_false (sym (rw c.in-Unary.is at e)))

pub returns-in-Binary : goal.returns-in-Binary
returns-in-Binary c = widened_none _ _ (λ x e. true_not_false (sym (rw c.in-Binary.is at e)))
