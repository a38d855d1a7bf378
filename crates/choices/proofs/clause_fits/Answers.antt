-- An arm for each kind: what the clause asks, one after the other.
use mathlib.Core.Path.{subst}
use Rattle.sets.proofs.Says.{fails, says_iff, says_eqb}
use Rattle.grammar.specs.Content.{SmallClause}
use Rattle.choices.proofs.clause_fits.Goals as goal

pub returns-then-len-ne1 : goal.returns-then-len-ne1
returns-then-len-ne1 c = rw c.in-Atom.is (fails (λ q. c.if-len-ne1.true q.0))

pub returns-then-left-ne0 : goal.returns-then-left-ne0
returns-then-left-ne0 c = rw c.in-Atom.is (fails (λ q. c.if-left-ne0.true q.1))

pub fits_unary-requires : goal.fits_unary-requires
fits_unary-requires c = record {
  room = c.requires.room;
  b_bound = subst SmallClause
      c.in-Unary.is c.requires.small_clause;
}

pub fits_binary-requires : goal.fits_binary-requires
fits_binary-requires c = record {
  room = c.requires.room;
  b_bound = subst SmallClause
      c.in-Binary.is c.requires.small_clause;
}

pub returns-then-len-eq0 : goal.returns-then-len-eq0
returns-then-len-eq0 c = rw c.in-Empty.is
    (says_iff (λ e. (c.if-len-eq0.true, e)) (λ q. q.1) (says_eqb _ _))

pub returns-else-len-eq0 : goal.returns-else-len-eq0
returns-else-len-eq0 c = rw c.in-Empty.is (fails (λ q. c.if-len-eq0.false q.0))

pub returns-else-left-ne0 : goal.returns-else-left-ne0
returns-else-left-ne0 c = rw c.in-Atom.is
    (says_iff (λ h. (c.if-len-ne1.false, c.if-left-ne0.false, h)) (λ q. q.2)
    c.allows_atom.ensures)

pub returns-in-Unary : goal.returns-in-Unary
returns-in-Unary c = rw c.in-Unary.is c.fits_unary.ensures

pub returns-in-Binary : goal.returns-in-Binary
returns-in-Binary c = rw c.in-Binary.is c.fits_binary.ensures
