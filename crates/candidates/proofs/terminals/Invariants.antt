-- `candidates::terminals` meets its contract. The loop's invariant: the set has the terminals of
-- the rules passed.
use lib.ListN.{take}
use Rattle.grammar.specs.Content.{rules_of}
use Rattle.candidates.specs.Terminals.{Terminals}
use Rattle.candidates.proofs.terminals.Given as goal

abbrev pub invariant-loop-r : goal.invariant-loop-r
invariant-loop-r l = Terminals (take l.r-index (rules_of l.fn.g)) l.set
