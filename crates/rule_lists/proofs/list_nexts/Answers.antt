use mathlib.Core.Path.{◌≡◌, sym, ◌∙◌, subst}
use Prim.Native.Nat.{ℕ, ◌+◌}
use native.Mathlib.Omega.{arith}
use lib.ListN.{length, length-set}
use Rattle.std.specs.Option.{unwrap_or}
use Rattle.grammar.specs.Content.{rules_of}
use Rattle.rule_lists.specs.RuleLists.{FirstOf, Nexts}
use Rattle.grammar.specs.declared.Rule.{Rule}
use Rattle.tables.proofs.RulePlaces.{rule_read}
use Rattle.rule_lists.proofs.ListLaws.{nexts_more, firsts_kept}
use Rattle.rule_lists.proofs.list_nexts.Goals as goal

pub loop-i-init : goal.loop-i-init
loop-i-init c = (
  omega arith,
  c.requires.lists_len.0,
  c.requires.lists_len.1,
  record
      { next = λ i h. absurd (omega arith) },
)

pub offset_bounds-g-i : goal.offset_bounds-g-i
offset_bounds-g-i c = omega (arith, c.requires.formed.few, c.loop-i-test.true)

pub bounds-g-i : goal.bounds-g-i
bounds-g-i c = omega (arith, c.requires.formed.few, c.loop-i-test.true)

pub rule_from-requires : goal.rule_from-requires
rule_from-requires c =
    (c.requires.formed, omega (arith, c.loop-i-test.true))

pub overflow_add-lists : goal.overflow_add-lists
overflow_add-lists c = omega (
  arith,
  c.requires.formed.few,
  c.loop-i-test.true,
)

pub offset_bounds-lists-i : goal.offset_bounds-lists-i
offset_bounds-lists-i c = omega (
  arith,
  c.requires.formed.few,
  c.loop-i-test.true,
)

pub bounds-lists-i : goal.bounds-lists-i
bounds-lists-i c = omega (
  arith,
  c.requires.formed.few,
  c.loop-i-test.true,
  c.loop-i.invariant.1,
)

pub loop-i-preserved : goal.loop-i-preserved
loop-i-preserved c =
    let l = c.loop-i in
    let h = c.loop-i-test.true in
    let r = c.unwrap_or-r.result in
    let x = subst (λ (y : Rule). FirstOf (rules_of c.args.g) y.left (l.i + 1)
    (unwrap_or c.rule_from.result 128)) (sym (rule_read c.args.g l.i h)) c.rule_from.ensures in (
      omega arith,
      length-set l.lists (64 + l.i) r ∙ l.invariant.1,
      firsts_kept l.i r l.invariant.2,
      nexts_more r (omega (arith, h, l.invariant.1, c.requires.formed.few)) l.invariant.3
          (rw c.unwrap_or-r.ensures x),
    )

pub shape_of-lists : goal.shape_of-lists
shape_of-lists c = c.loop-i.invariant.1 ∙ sym c.requires.lists_len.0

pub returns : goal.returns
returns c = let l = c.loop-i in let e : l.i ≡ length (rules_of c.args.g) = omega
    (arith, l.invariant.0, c.loop-i-test.false, c.requires.formed.whole) in
    record {
      long = l.invariant.1;
      firsts = l.invariant.2;
      nexts = subst (λ (m : ℕ). Nexts (rules_of c.args.g) m l.lists) e l.invariant.3;
    }
