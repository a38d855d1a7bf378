-- `put_rules` meets its contract. The loop's invariant: the lines of the first `i` rules are put.
use Prim.Native.Nat.{◌+◌, ◌*◌, ◌≤◌}
use lib.ListN.{take}
use Rattle.printing.specs.Printing.{Wrote}
use Rattle.rule_text.specs.RuleText.{rules_text}
use Rattle.rule_text.proofs.put_rules.Given as goal

abbrev pub invariant-loop-i : goal.invariant-loop-i
invariant-loop-i l =
    (l.i ≤ l.g.count) × (l.next ≤ l.at + 29 * l.i) × Wrote l.initial.out l.out l.at
    (rules_text (take l.i l.g.rules)) l.next
