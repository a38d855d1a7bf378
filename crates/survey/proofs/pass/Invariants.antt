-- `survey::pass` meets its contract. The loop's invariant: the first p rules were passed.
use Prim.Native.Nat.{◌≤◌}
use Rattle.grammar.specs.Content.{rules_of}
use Rattle.acyclic.specs.Passes.{RulesPassed}
use Rattle.survey.specs.Closing.{Aimed, AddsBy}
use Rattle.survey.proofs.pass.Given as goal

abbrev pub invariant-loop-p : goal.invariant-loop-p
invariant-loop-p l =
    (l.p ≤ l.count) × RulesPassed (AddsBy l.aim l.nulls l.prods) (Aimed (rules_of l.g) l.aim)
    (rules_of l.g) l.p l.set l.next
