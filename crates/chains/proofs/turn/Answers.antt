use mathlib.Core.Path.{◌≡◌, refl, sym, ◌∙◌, subst}
use Prim.Native.Nat.{ℕ, ◌<◌}
use native.Mathlib.Omega.{arith}
use Rattle.chains.specs.Reaching.{Turned}
use Rattle.chains.proofs.WordLaws.{turned_none, turned_more}
use Rattle.chains.proofs.turn.Goals as goal

pub clear-requires : goal.clear-requires
clear-requires c = omega (arith, c.requires.0)

pub loop-a-init : goal.loop-a-init
loop-a-init c = (
  omega arith,
  turned_none c.args.seen.now c.args.twice.now c.requires.0
      c.clear.ensures,
)

pub bounds-seen-a : goal.bounds-seen-a
bounds-seen-a c = omega (
  arith,
  c.requires.1,
  c.loop-a-test.true,
)

pub gather-two-requires : goal.gather-two-requires
gather-two-requires c =
    c.requires.2

pub put_pair-requires : goal.put_pair-requires
put_pair-requires c = (
  c.loop-a-test.true,
  omega
      (arith, c.loop-a.invariant.1.size),
)

pub loop-a-smaller : goal.loop-a-smaller
loop-a-smaller c = omega (arith, c.loop-a-test.true)

pub loop-a-preserved : goal.loop-a-preserved
loop-a-preserved c = let l = c.loop-a in
    let h : l.a < 64 = c.loop-a-test.true in (
      omega arith,
      turned_more _ c.gather-two.result refl
          c.gather-two.ensures
          c.put_pair.ensures l.invariant.1,
    )

pub shape_of-ups : goal.shape_of-ups
shape_of-ups c = c.loop-a.invariant.1.size ∙ sym
    c.requires.0

pub returns : goal.returns
returns c = let l = c.loop-a in
    let a = c.args in
    subst (λ (x : ℕ). Turned a.seen.now a.twice.now x l.ups)
    (let z : l.a ≡ 64 = omega (arith, l.invariant.0, c.loop-a-test.false) in z) l.invariant.1
