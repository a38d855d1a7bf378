use borrow.Author.Rules.{rules}
use native.Mathlib.Omega.{arith}
use mathlib.Core.Logic.{⊎_elim}
use Prim.Native.Nat.{◌^◌, ◌<◌}
use Rattle.joins.specs.Passes.{passes_none, passes_more}
use Rattle.joins.proofs.PassLaws.{pass_grows, sum_grows}
use Rattle.links.proofs.passes.Goals as goal

pub loop-t-init : goal.loop-t-init
loop-t-init c = passes_none

pub loop-t-smaller : goal.loop-t-smaller
loop-t-smaller c =
    let t = c.loop-t.t in
    let u = c.pass-u.result in
    let x = pass_grows c.pass-u.ensures in
    let bound : u.one < 2 ^ 64 = search rules in
    omega (
      arith,
      sum_grows t.one t.two u.one u.two x.0 x.1
          (λ q. ⊎_elim (λ y. y.1 q.1) (λ n. n q.0) c.else-u-t.either),
      bound,
    )

pub loop-t-preserved : goal.loop-t-preserved
loop-t-preserved c = passes_more c.loop-t.invariant c.pass-u.ensures
