use Rattle.grammar.specs.Content.{rules_of}
use Rattle.chains.specs.Chains.{Upto}
use Rattle.chains.proofs.chains.Given as goal

abbrev pub invariant-loop-l : goal.invariant-loop-l
invariant-loop-l l = Upto (rules_of l.g) l.e l.table l.l
