use mathlib.Core.Path.{◌≡◌, refl, ◌∙◌, subst}
use Prim.Native.Nat.{ℕ, ◌<◌}
use native.Mathlib.Omega.{arith}
use Rattle.chains.specs.Reaching.{Through}
use Rattle.chains.proofs.WordLaws.{through_none, through_more, through_skip}
use Rattle.chains.proofs.through.Goals as goal

pub bounds-words-k : goal.bounds-words-k
bounds-words-k c = omega (arith, c.requires)

pub with-requires : goal.with-requires
with-requires c = c.requires.0

pub returns-then-set-with : goal.returns-then-set-with
returns-then-set-with c = through_skip _ refl (c.if-set-with.true ∙ c.with.ensures)

pub loop-a-init : goal.loop-a-init
loop-a-init c = (omega arith, through_none _ _)

pub add_if-requires : goal.add_if-requires
add_if-requires c = (
  c.loop-a-test.true,
  c.requires.0,
  c.loop-a.invariant.1.joins.long
      ∙ c.requires.1,
)

pub loop-a-smaller : goal.loop-a-smaller
loop-a-smaller c = omega (arith, c.loop-a-test.true)

pub loop-a-preserved : goal.loop-a-preserved
loop-a-preserved c = let l = c.loop-a in
    let h : l.a < 64 = c.loop-a-test.true in
    (omega arith, through_more refl l.invariant.1 c.add_if.ensures)

pub shape_of-words : goal.shape_of-words
shape_of-words c = c.loop-a.invariant.1.joins.long

pub returns : goal.returns
returns c = let l = c.loop-a in
    let a = c.args in
    subst (λ (x : ℕ). Through a.k a.words.now x l.words)
    (let z : l.a ≡ 64 = omega (arith, l.invariant.0, c.loop-a-test.false) in z) l.invariant.1
