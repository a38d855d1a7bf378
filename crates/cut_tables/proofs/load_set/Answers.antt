use Prim.Native.Nat.{◌+◌, ◌<◌}
use native.Mathlib.Omega.{arith}
use lib.ListN.{length}
use Rattle.cuts.proofs.JoinLaws.{joins_set, joins_as}
use Rattle.cut_tables.proofs.TurnLaws.{joins_least, joins_gone}
use Rattle.cut_tables.proofs.load_set.Invariants.{Member}
use Rattle.cut_tables.proofs.load_set.Goals as goal

pub loop-a-preserved : goal.loop-a-preserved
loop-a-preserved c =
    let a = c.args in
    let l = c.loop-a in
    let m = c.in-Some.ensures.steps in
    let r = c.in-Some.a in
    let at : a.p + r < length l.cuts =
    omega (arith, m.0.small, l.invariant.0.long, c.requires.1) in
    rw m.1 (
      joins_least (Member a.p a.c) a.set _ r m.0
          l.invariant.1 l.invariant.0
          (rw c.with.ensures
          (joins_as (λ q k x. (m.0.small, x.0, x.1)) (λ q k x. (x.1, x.2))
          (joins_set l.cuts (a.p + r) a.c at))),
      λ k i. l.invariant.1 k ((m.0.others k).0 i).0,
    )

pub shape_of-cuts : goal.shape_of-cuts
shape_of-cuts c = c.loop-a.invariant.0.long

pub returns : goal.returns
returns c = joins_gone _ _ _ c.in-None.ensures.steps.0 c.loop-a.invariant.0
