-- `put_clause` meets its contract.
use native.Mathlib.Omega.{arith}
use Rattle.rule_text.specs.RuleText.{clause_text, unary_lay_of}
use Rattle.rule_text.proofs.put_clause.Goals as goal

pub returns-in-Empty : goal.returns-in-Empty
unfolding clause_text unary_lay_of
returns-in-Empty c = record {
  wrote = rw c.in-Empty.is c.put_bytes.ensures;
  upper_bound = omega
      (arith, c.put_bytes.ensures.next);
}

pub returns-in-Atom : goal.returns-in-Atom
unfolding clause_text
returns-in-Atom c =
    record {
      wrote = rw c.in-Atom.is c.put_atom.ensures.wrote;
      upper_bound = c.put_atom.ensures.upper_bound;
    }

pub returns-in-Unary : goal.returns-in-Unary
unfolding clause_text
returns-in-Unary c = record {
  wrote = rw c.in-Unary.is c.put_over.ensures.wrote;
  upper_bound = c.put_over.ensures.upper_bound;
}

pub returns-in-Binary : goal.returns-in-Binary
unfolding clause_text
returns-in-Binary c = record {
  wrote = rw c.in-Binary.is c.put_pair.ensures.wrote;
  upper_bound = c.put_pair.ensures.upper_bound;
}
