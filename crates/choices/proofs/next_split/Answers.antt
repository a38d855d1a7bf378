use borrow.Author.Count.{below_more}
use native.Mathlib.Omega.{arith}
use Rattle.tables.specs.Tables.{One, by_marks}
use Rattle.tables.proofs.Views.{fits_le}
use Rattle.choices.proofs.next_split.Goals as goal

pub returns-then-r-a : goal.returns-then-r-a
returns-then-r-a c = λ j h q. c.if-r-a.true q.0

pub loop-left-init : goal.loop-left-init
loop-left-init c = (omega arith, λ j l h q. omega arith)

pub clause_fits-requires : goal.clause_fits-requires
clause_fits-requires c =
    record { room = c.requires.room; small_clause = c.requires.small_rule.clause }

pub returns-then-clause_fits : goal.returns-then-clause_fits
returns-then-clause_fits c =
    let l = c.loop-left in (
      l.invariant.0,
      (
        c.if-r-a.false,
        c.clause_fits.ensures.is c.if-clause_fits.true,
      ),
      λ j x h q. l.invariant.1 j x h q.1,
    )

pub loop-left-preserved : goal.loop-left-preserved
loop-left-preserved c =
    let l = c.loop-left in (
      omega (arith, l.invariant.0),
      below_more _ _ l.invariant.1
          (λ h. c.clause_fits.ensures.isnt c.if-clause_fits.false),
    )

pub returns-else-r-a : goal.returns-else-r-a
returns-else-r-a c = λ j h q.
    let a = c.args in
    c.loop-left.invariant.1 j (omega (
      arith,
      c.last_left-last.ensures,
      fits_le (One a.words.now a.n)
          (by_marks a.k a.len) a.start a.len a.r.clause j q.1,
    )) h q.1
