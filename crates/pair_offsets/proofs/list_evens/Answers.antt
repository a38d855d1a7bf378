use mathlib.Core.Path.{◌≡◌}
use native.Mathlib.Omega.{arith}
use borrow.Author.Rules.{rules}
use Rattle.pair_offsets.proofs.ListLaws.{listing_none, listing_more}
use Rattle.pair_offsets.proofs.list_evens.Goals as goal

pub loop-t-init : goal.loop-t-init
loop-t-init c = (omega arith, listing_none _ _ _)

pub push_even-n-requires : goal.push_even-n-requires
push_even-n-requires c =
    let l = c.loop-t.invariant in
    omega (
      arith,
      l.1.high,
      l.1.size,
      c.loop-t-test.true,
      c.requires,
    )

pub loop-t-preserved : goal.loop-t-preserved
loop-t-preserved c = (
  search rules,
  listing_more c.loop-t.invariant.1
      c.push_even-n.ensures,
)

pub shape_of-out : goal.shape_of-out
shape_of-out c = c.loop-t.invariant.1.size

pub returns : goal.returns
returns c =
    let e : c.loop-t.t ≡ 4096 = omega arith in
    rw e at c.loop-t.invariant.1
