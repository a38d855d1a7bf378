-- `reports::token_count` meets its contract: each way out settles how many token lines there are in
-- all.
use mathlib.Core.Logic.{inr}
use native.Mathlib.Omega.{arith}
use Rattle.reports.proofs.Counting.{counted_more, many, unread, all_read}
use borrow.Author.Rules.{rules}
use Rattle.reports.proofs.token_count.Goals as goal

pub returns-in_err-end : goal.returns-in_err-end
returns-in_err-end c =
    let l = c.loop-n.invariant in
    rw c.from_residual.ensures (unread _ _ l.0 l.1 c.in_err-end.ensures)

pub returns-then-end-s : goal.returns-then-end-s
returns-then-end-s c =
    all_read _ _ (counted_more _ _ c.loop-n.invariant.0 (search rules) c.in_ok-end.ensures)
    (omega arith) c.if-end-s.true

pub loop-n-preserved : goal.loop-n-preserved
loop-n-preserved c =
    let t = c.in_ok-end.ensures in (
      counted_more _ _ c.loop-n.invariant.0 (search rules) t,
      inr (omega (arith, t.inside, c.if-end-s.false)),
    )

pub returns : goal.returns
returns c =
    let l = c.loop-n.invariant in many _ _ l.0 (search rules) l.1
