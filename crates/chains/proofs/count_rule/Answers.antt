use mathlib.Core.Path.{subst}
use native.Mathlib.Omega.{arith}
use Rattle.sets.proofs.Says.{fails}
use Rattle.grammar.specs.Content.{SmallClause}
use Rattle.chains.proofs.CountLaws.{count_says, says_true}
use Rattle.chains.proofs.count_rule.Goals as goal

pub count-requires : goal.count-requires
count-requires c = record {
  a_bound = (
    c.requires.small_rule.left,
    subst SmallClause c.in-Unary.is
        c.requires.small_rule.clause,
  );
  seen_len = c.requires.seen_len;
}

pub has-requires : goal.has-requires
has-requires c = (subst SmallClause c.in-Binary.is
    c.requires.small_rule.clause).0

pub has-requires-in-Binary : goal.has-requires-in-Binary
has-requires-in-Binary c = (subst SmallClause c.in-Binary.is
    c.requires.small_rule.clause).0

pub count-requires-in-Binary : goal.count-requires-in-Binary
count-requires-in-Binary c = record {
  a_bound = (
    c.requires.small_rule.left,
    (subst SmallClause
        c.in-Binary.is
        c.requires.small_rule.clause).1,
  );
  seen_len = c.requires.seen_len;
}

pub has-requires-in-Binary-2 : goal.has-requires-in-Binary-2
has-requires-in-Binary-2 c = (subst SmallClause
    c.in-Binary.is c.requires.small_rule.clause
    ).1

pub has-requires-in-Binary-3 : goal.has-requires-in-Binary-3
has-requires-in-Binary-3 c = (subst SmallClause
    c.in-Binary.is c.requires.small_rule.clause).1

pub count-requires-in-Binary-2 : goal.count-requires-in-Binary-2
count-requires-in-Binary-2 c = let k = c.count-in-Binary.ensures in record {
  a_bound = (
    c.requires.small_rule.left,
    (subst SmallClause
        c.in-Binary.is
        c.requires.small_rule.clause).0,
  );
  seen_len = (
    omega
        (arith, k.adds.long, c.requires.seen_len.0),
    omega
        (arith, k.doubles.long, c.requires.seen_len.1),
    c.requires.seen_len.2,
  );
}

pub returns-in-Unary : goal.returns-in-Unary
returns-in-Unary c = rw c.in-Unary.is (count_says (says_true
    c.holds_at.ensures) (says_true (fails (λ x. x)))
    c.count.ensures)

pub returns-in-Binary : goal.returns-in-Binary
returns-in-Binary c = let k = c.count-in-Binary in
    rw c.in-Binary.is (
      k.new.seen,
      k.new.twice,
      count_says
          (says_true c.has.ensures)
          (says_true c.has-in-Binary.ensures)
          k.ensures,
      count_says (says_true
          c.has-in-Binary-2.ensures) (says_true c.has-in-Binary-3.ensures)
          c.count-in-Binary-2.ensures,
    )
