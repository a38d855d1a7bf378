use mathlib.Core.Path.{◌≡◌, sym, ◌∙◌, subst}
use Prim.Native.Nat.{ℕ, ◌<◌}
use native.Mathlib.Omega.{arith}
use Rattle.chains.specs.Reaching.{Selves}
use Rattle.chains.proofs.WordLaws.{selves_none, selves_more}
use Rattle.chains.proofs.selves.Goals as goal

pub loop-a-init : goal.loop-a-init
loop-a-init c = (omega arith, selves_none _ c.requires)

pub with-requires : goal.with-requires
with-requires c = c.loop-a-test.true

pub bounds-words-a : goal.bounds-words-a
bounds-words-a c =
    omega (arith, c.loop-a-test.true, c.loop-a.invariant.1.size)

pub loop-a-smaller : goal.loop-a-smaller
loop-a-smaller c = omega (arith, c.loop-a-test.true)

pub loop-a-preserved : goal.loop-a-preserved
loop-a-preserved c = let l = c.loop-a in let h : l.a < 64 = c.loop-a-test.true in
    (omega arith, selves_more _ c.with.ensures h l.invariant.1)

pub shape_of-words : goal.shape_of-words
shape_of-words c = c.loop-a.invariant.1.size ∙ sym c.requires

pub returns : goal.returns
returns c = let l = c.loop-a in
    subst (λ (x : ℕ). Selves x l.words)
    (let z : l.a ≡ 64 = omega (arith, l.invariant.0, c.loop-a-test.false) in z) l.invariant.1
