use borrow.Author.Rules.{rules}
use mathlib.Core.Path.{◌≡◌}
use native.Mathlib.Omega.{arith}
use Rattle.printing.proofs.Writing.{wrote_none, wrote_then}
use Rattle.text_trees.proofs.PlaceLines.{lines_more}
use Rattle.text_trees.proofs.put_places.Goals as goal

pub loop-i-init : goal.loop-i-init
loop-i-init c = (search rules, search rules, wrote_none _ _)

pub loop-i-preserved : goal.loop-i-preserved
loop-i-preserved c =
    let w = c.put_place-next.ensures in (
      search rules,
      omega (arith, w.upper_bound, c.loop-i.invariant.1),
      rw
          (lines_more c.loop-i.i c.args.list.now (search rules))
          (wrote_then c.loop-i.invariant.2 w.wrote),
    )

pub returns : goal.returns
returns c =
    let l = c.loop-i in
    let e : l.i ≡ c.args.count = omega (arith, l.invariant.0, c.loop-i-test) in
    rw e at l.invariant.2
