-- `acyclic::pass` meets its contract. The loop's invariant: the first p rules were passed.
use Rattle.grammar.specs.Content.{rules_of}
use Rattle.acyclic.specs.Passes.{RulesPassed}
use Rattle.acyclic.proofs.pass.Given as goal

abbrev pub invariant-loop-p : goal.invariant-loop-p
invariant-loop-p g l = RulesPassed (g.A.Adding.adds l.x) (g.A.Adding.aim l.x (rules_of l.g))
    (rules_of l.g) l.p l.set l.next
