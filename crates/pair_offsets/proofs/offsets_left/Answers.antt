use mathlib.Core.Path.{◌≡◌}
use native.Mathlib.Omega.{arith}
use borrow.Author.Rules.{rules}
use Rattle.pair_offsets.proofs.ListLaws.{left_none, left_more, left_all}
use Rattle.pair_offsets.proofs.offsets_left.Goals as goal

pub loop-i-init : goal.loop-i-init
loop-i-init c = (omega arith, search rules, left_none _ _ _)

pub returns-then-r-m : goal.returns-then-r-m
returns-then-r-m c =
    let i = c.loop-i.invariant in
    left_all i.1 c.if-r-m.true i.2

pub loop-i-preserved : goal.loop-i-preserved
loop-i-preserved c =
    let i = c.loop-i.invariant in
    (omega (arith, i.0), search rules, left_more i.0 i.2 c.with_offset-r.ensures)

pub returns : goal.returns
returns c =
    let e : c.loop-i.i ≡ c.args.end = omega arith in
    rw e at c.loop-i.invariant.2
