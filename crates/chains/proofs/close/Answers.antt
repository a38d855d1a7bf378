use mathlib.Core.Path.{◌≡◌, sym, ◌∙◌, subst}
use Prim.Native.Nat.{ℕ, ◌<◌}
use native.Mathlib.Omega.{arith}
use Rattle.chains.specs.Reaching.{Closes}
use Rattle.chains.proofs.ReachLaws.{closes_none, closes_more}
use Rattle.chains.proofs.close.Goals as goal

pub loop-k-init : goal.loop-k-init
loop-k-init c = (omega arith, closes_none _ c.requires)

pub through-requires : goal.through-requires
through-requires c = (c.loop-k-test.true, c.loop-k.invariant.1.size)

pub loop-k-smaller : goal.loop-k-smaller
loop-k-smaller c = omega (arith, c.loop-k-test.true)

pub loop-k-preserved : goal.loop-k-preserved
loop-k-preserved c = let l = c.loop-k in
    let h : l.k < 64 = c.loop-k-test.true in
    (omega arith, closes_more h l.invariant.1 c.through.ensures)

pub shape_of-words : goal.shape_of-words
shape_of-words c = c.loop-k.invariant.1.size ∙ sym c.requires

pub returns : goal.returns
returns c = let l = c.loop-k in
    subst (λ (x : ℕ). Closes c.args.words.now x l.words)
    (let z : l.k ≡ 64 = omega (arith, l.invariant.0, c.loop-k-test.false) in z) l.invariant.1
