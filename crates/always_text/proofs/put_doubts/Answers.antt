use mathlib.Core.Path.{◌≡◌}
use native.Mathlib.Omega.{arith}
use Rattle.printing.proofs.Writing.{wrote_none, wrote_then}
use Rattle.always_text.proofs.DoubtLines.{lines_more}
use borrow.Author.Rules.{rules}
use Rattle.always_text.proofs.put_doubts.Goals as goal

pub loop-i-init : goal.loop-i-init
loop-i-init c = (search rules, search rules, wrote_none _ _)

pub loop-i-preserved : goal.loop-i-preserved
loop-i-preserved c =
    let w = c.put_doubt-next.ensures in (
      search rules,
      omega (arith, w.upper_bound, c.loop-i.invariant.1),
      rw (lines_more c.loop-i.i c.args.list.now (search rules))
          (wrote_then c.loop-i.invariant.2 w.wrote),
    )

pub returns : goal.returns
returns c =
    let l = c.loop-i in
    let e : l.i ≡ c.args.count = omega (arith, l.invariant.0, c.loop-i-test) in
    rw e at l.invariant.2
