-- What an inner function is given: the clause of a rule that an accepted sheet has.
use Rattle.std.specs.Prelude.{◌≡◌, List, ℕ}
use Rattle.grammar.specs.declared.Clause.{Clause}
use Rattle.grammar.specs.Trees.{Rules}
use Rattle.mark_change.proofs.ChangedLaws.{ChangedAt}

-- the rule at place p of the sheet has this clause
pub record Named (rules : List ℕ) (p : ℕ) (c : Clause) : Type 0 where
  pub all : Rules
  pub at : ChangedAt rules all p
  pub is : c ≡ at.rule.clause
