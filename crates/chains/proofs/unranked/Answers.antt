use mathlib.Core.Path.{◌≡◌, sym, subst}
use Prim.Native.Nat.{ℕ, ◌+◌, ◌<◌}
use native.Mathlib.Omega.{arith}
use native.Mathlib.Decide.{ℕ_discrete}
use lib.Seq.{get_or-take}
use Rattle.sets.proofs.Says.{true_not_false}
use Rattle.grammar.specs.declared.Rule.{Rule}
use Rattle.grammar.specs.Trees.{Rules}
use Rattle.grammar.specs.Content.{rules_of}
use Rattle.tables.specs.Tables.{no_rule, rule}
use Rattle.chains.specs.Chains.{Ranked, Unranked}
use Rattle.chains.proofs.unranked.Goals as goal

more : (l : ℕ) (g : Rules) (i : ℕ) → (Ranked l (rule g i).clause → ⊥) → Unranked l g i
    → Unranked l g (i + 1)
more l g i w u = record { absent = λ j h x. go j h x (ℕ_discrete j i) }
  where
    go : (j : ℕ) → j < i + 1 → Ranked l (rule g j).clause → Dec (j ≡ i) → ⊥
    go j h x (yes e) = w (subst (λ (y : ℕ). Ranked l (rule g y).clause) e x)
    go j h x (no e) = u.absent j (omega arith) x

pub loop-i-init : goal.loop-i-init
loop-i-init c = (omega arith, record { absent = λ j h x. absurd (omega arith) })

pub bounds-g-i : goal.bounds-g-i
bounds-g-i c = omega (arith, c.requires.few, c.loop-i-test.true)

pub returns-then-ranked : goal.returns-then-ranked
returns-then-ranked c = λ q. absurd (true_not_false (sym q))

pub loop-i-preserved : goal.loop-i-preserved
loop-i-preserved c =
    let l = c.loop-i in
    let w = c.args.g in
    let h : l.i < w.count = c.loop-i-test.true in
    let e = sym (get_or-take w.count w.rules l.i no_rule h) in (
      omega arith,
      more c.args.l (rules_of w) l.i
          (λ x. c.ranked.ensures.isnt c.if-ranked.false
          (subst (λ (y : Rule). Ranked c.args.l y.clause) (sym e) x)) l.invariant.1,
    )

pub returns : goal.returns
returns c = let l = c.loop-i in
    let a = c.args in
    let w = a.g in
    λ q. subst (Unranked a.l (rules_of w))
    (let z : l.i ≡ w.count = omega (arith, l.invariant.0, c.loop-i-test.false) in z) l.invariant.1
