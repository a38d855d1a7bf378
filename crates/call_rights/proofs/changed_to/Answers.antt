-- `changed_to` meets its contract: 51 by the rule's place and the user's set, else the new mark is
-- looked at.
use native.Mathlib.Omega.{arith}
use Rattle.call_rights.specs.Change.{allowed}
use Rattle.call_rights.proofs.Changes.{barred_zero, barred_past, read_small, read_named}
use Rattle.call_rights.proofs.Changes.{read_may, read_barred}
use Rattle.call_rights.proofs.changed_to.Goals as goal

pub returns-then-rule-eq0 : goal.returns-then-rule-eq0
returns-then-rule-eq0 c = let z = c.args in
    rw c.into.ensures (barred_zero _ z.rules.now _ _ z.lay.now _
    c.if-rule-eq0.true)

pub returns-then-g-rule : goal.returns-then-g-rule
returns-then-g-rule c = rw c.into-then-g-rule.ensures
    (barred_past c.requires.formed c.args.rules.now c.requires.rules_value _ _
    c.args.lay.now _ c.if-g-rule.true)

pub has-requires : goal.has-requires
has-requires c =
    read_small c.requires.formed c.args.rules.now c.requires.rules_value c.args.changes c.args.rule
    c.args.lay.now c.args.lay.now (omega (arith, c.if-rule-eq0.false))
    (omega (arith, c.if-g-rule.false)) _

pub marked-requires : goal.marked-requires
marked-requires c = record {
  named = read_named c.requires.formed c.args.rules.now c.requires.rules_value c.args.changes
      c.args.rule c.args.lay.now c.args.lay.now
      (omega (arith, c.if-rule-eq0.false))
      (omega (arith, c.if-g-rule.false)) _;
  rule_bound = omega
      (arith, c.if-g-rule.false, c.requires.formed.few);
}

pub returns-then-has : goal.returns-then-has
returns-then-has c = allowed
    (read_may c.requires.formed c.args.rules.now c.requires.rules_value c.args.changes c.args.rule
    c.args.lay.now c.args.lay.now
    (omega (
      arith,
      c.if-rule-eq0.false,
    )) (omega (
      arith,
      c.if-g-rule.false,
    )) _ c.if-has.true
    c.has.ensures)
    c.marked.ensures

pub returns : goal.returns
returns c =
    rw c.into-2.ensures (read_barred c.requires.formed c.args.rules.now c.requires.rules_value
    c.args.changes c.args.rule c.args.lay.now _
    (omega (arith, c.if-rule-eq0.false))
    (omega (arith, c.if-g-rule.false)) _
    c.if-has.false c.has.ensures)
