use mathlib.Core.Path.{◌≡◌}
use native.Mathlib.Omega.{arith}
use borrow.Author.Rules.{rules}
use Rattle.pair_offsets.proofs.ListLaws.{listing_none, listing_four}
use Rattle.pair_offsets.proofs.list_from_one.Goals as goal

pub loop-t-init : goal.loop-t-init
loop-t-init c = (omega arith, listing_none _ _ _, omega arith)

pub push_even-n-requires : goal.push_even-n-requires
push_even-n-requires c =
    let l = c.loop-t.invariant in
    omega (
      arith,
      l.2,
      l.1.size,
      c.loop-t-test.true,
      c.requires.0,
    )

pub loop-t-preserved : goal.loop-t-preserved
loop-t-preserved c =
    let l = c.loop-t.invariant in
    let p = c.push_even-n.ensures in (
      search rules,
      listing_four _ c.requires.1 l.1 p,
      omega (arith, l.2, p.high),
    )

pub shape_of-out : goal.shape_of-out
shape_of-out c = c.loop-t.invariant.1.size

pub returns : goal.returns
returns c =
    let l = c.loop-t in
    let e : l.t ≡ 1024 = omega (arith, l.invariant.0, c.loop-t-test.false) in
    (rw e at l.invariant.1, rw e at l.invariant.2)
