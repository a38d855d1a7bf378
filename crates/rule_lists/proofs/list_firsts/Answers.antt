use mathlib.Core.Path.{◌≡◌, sym, ◌∙◌, subst}
use Prim.Native.Nat.{ℕ}
use native.Mathlib.Omega.{arith}
use lib.ListN.{length-set}
use Rattle.grammar.specs.Content.{rules_of}
use Rattle.rule_lists.specs.RuleLists.{Firsts}
use Rattle.rule_lists.proofs.ListLaws.{firsts_more}
use Rattle.rule_lists.proofs.list_firsts.Goals as goal

pub loop-a-init : goal.loop-a-init
loop-a-init c = (omega arith, c.requires.lists_len, record { first = λ A h. absurd (omega arith) })

pub rule_from-requires : goal.rule_from-requires
rule_from-requires c = (c.requires.formed, omega arith)

pub overflow_cast-lists : goal.overflow_cast-lists
overflow_cast-lists c = omega (arith, c.loop-a-test.true)

pub offset_bounds-lists-a : goal.offset_bounds-lists-a
offset_bounds-lists-a c = omega (arith, c.loop-a-test.true)

pub bounds-lists-a : goal.bounds-lists-a
bounds-lists-a c = omega (arith, c.loop-a-test.true, c.loop-a.invariant.1)

pub loop-a-preserved : goal.loop-a-preserved
loop-a-preserved c =
    let l = c.loop-a in (
      omega (arith, c.loop-a-test.true),
      length-set l.lists l.a c.unwrap_or-r.result
          ∙ l.invariant.1,
      firsts_more c.unwrap_or-r.result
          (omega (arith, c.loop-a-test.true, l.invariant.1)) l.invariant.2
          (rw c.unwrap_or-r.ensures c.rule_from.ensures),
    )

pub shape_of-lists : goal.shape_of-lists
shape_of-lists c = c.loop-a.invariant.1 ∙ sym c.requires.lists_len

pub returns : goal.returns
returns c = let l = c.loop-a in
    let e : l.a ≡ 64 = omega (arith, l.invariant.0, c.loop-a-test.false) in (
      subst (λ (m : ℕ). Firsts (rules_of c.args.g) m l.lists) e
          l.invariant.2,
      l.invariant.1,
    )
