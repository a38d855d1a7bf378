use mathlib.Core.Path.{sym, subst}
use Prim.Native.Nat.{◌<◌}
use native.Mathlib.Omega.{arith}
use Rattle.std.specs.Prelude.{Some, None}
use Rattle.grammar.specs.declared.Rule.{Rule}
use Rattle.grammar.specs.Content.{SmallRule}
use Rattle.choices.specs.Searches.{FirstSplit}
use Rattle.tables.proofs.RulePlaces.{small_at, rule_read}
use Rattle.choices.proofs.PickLaws.{reached_first, pick_here, pick_on, pick_none}
use Rattle.choices.proofs.next_rule.Goals as goal

pub loop-rule-init : goal.loop-rule-init
loop-rule-init c =
    let a = c.args in
    reached_first a.words.now a.g a.n a.start a.len a.k a.a a.from.rule a.from.left

pub bounds-g-rule : goal.bounds-g-rule
bounds-g-rule c = omega (arith, c.requires.formed)

pub next_split-requires : goal.next_split-requires
next_split-requires c =
    let i = c.loop-rule.rule in
    let h : i < c.args.g.count = c.loop-rule-test.true in record {
      room = c.requires.room;
      small_rule = subst SmallRule (rule_read c.args.g i h)
          (small_at c.requires.formed i (omega (arith, c.requires.formed.whole)));
    }

pub returns-in-Some : goal.returns-in-Some
returns-in-Some c =
    let a = c.args in
    let l = c.loop-rule in
    let h : l.rule < a.g.count = c.loop-rule-test.true in
    pick_here a.words.now a.g a.n a.start a.len a.k a.a a.from.rule a.from.left
    l.rule l.least c.in-Some.left (omega (arith, c.requires.formed.whole)) l.invariant
    (subst (λ (r : Rule). FirstSplit a.words.now a.n a.start a.len a.k a.a r l.least
    (Some c.in-Some.left)) (sym (rule_read a.g l.rule h)) c.in-Some.ensures)

pub loop-rule-preserved : goal.loop-rule-preserved
loop-rule-preserved c =
    let a = c.args in
    let l = c.loop-rule in
    let h : l.rule < a.g.count = c.loop-rule-test.true in
    pick_on a.words.now a.g a.n a.start a.len a.k a.a a.from.rule a.from.left
    l.rule l.least l.invariant
    (subst (λ (r : Rule). FirstSplit a.words.now a.n a.start a.len a.k a.a r l.least None)
    (sym (rule_read a.g l.rule h)) c.in_default.ensures)

pub returns : goal.returns
returns c =
    let a = c.args in
    let l = c.loop-rule in
    pick_none a.words.now a.g a.n a.start a.len a.k a.a a.from.rule a.from.left
    l.rule l.least (omega (arith, c.loop-rule-test.false, c.requires.formed.whole)) l.invariant
