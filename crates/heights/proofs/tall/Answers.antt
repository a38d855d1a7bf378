-- `tall` meets its contract, by the kind of the clause.
use mathlib.Core.Path.{subst}
use Rattle.grammar.specs.Content.{SmallClause}
use Rattle.heights.proofs.FallLaws.{measured_none, measured_empty, measured_atom}
use Rattle.heights.proofs.tall.Goals as goal

pub returns-then-len-ne0 : goal.returns-then-len-ne0
returns-then-len-ne0 c = rw c.in-Empty.is (measured_none _ (λ h q. c.if-len-ne0.true q.0))

pub returns-then-left-ne0 : goal.returns-then-left-ne0
returns-then-left-ne0 c =
    rw c.in-Empty.is (measured_none _ (λ h q. c.if-left-ne0.true q.1))

pub returns-then-len-ne1 : goal.returns-then-len-ne1
returns-then-len-ne1 c = rw c.in-Atom.is (measured_none _ (λ h q. c.if-len-ne1.true q.0))

pub returns-then-left-ne0-2 : goal.returns-then-left-ne0-2
returns-then-left-ne0-2 c =
    rw c.in-Atom.is (measured_none _ (λ h q. c.if-left-ne0-2.true q.1))

pub returns-then-not-allows_atom : goal.returns-then-not-allows_atom
returns-then-not-allows_atom c = rw c.in-Atom.is
    (measured_none _ (λ h q. c.allows_atom.ensures.isnt c.if-not-allows_atom.true
    q.2))

pub unary_tall-requires : goal.unary_tall-requires
unary_tall-requires c = record {
  room = c.requires.room;
  b_bound = subst SmallClause
      c.in-Unary.is c.requires.small_clause;
}

pub binary_tall-requires : goal.binary_tall-requires
binary_tall-requires c = record {
  room = c.requires.room;
  b_bound = subst SmallClause
      c.in-Binary.is c.requires.small_clause;
}

pub returns-else-left-ne0 : goal.returns-else-left-ne0
returns-else-left-ne0 c = rw c.in-Empty.is
    (measured_empty c.if-len-ne0.false c.if-left-ne0.false)

pub returns-else-not-allows_atom : goal.returns-else-not-allows_atom
returns-else-not-allows_atom c = rw c.in-Atom.is
    (measured_atom _ _ c.if-len-ne1.false c.if-left-ne0-2.false
    (c.allows_atom.ensures.is c.if-not-allows_atom.false))

pub returns-in-Unary : goal.returns-in-Unary
returns-in-Unary c = rw c.in-Unary.is c.unary_tall.ensures

pub returns-in-Binary : goal.returns-in-Binary
returns-in-Binary c = rw c.in-Binary.is c.binary_tall.ensures
