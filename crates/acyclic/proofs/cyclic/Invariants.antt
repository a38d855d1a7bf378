-- `acyclic::cyclic` meets its contract. The loop's invariant: no chain from a nonterminal below a
-- returns.
use Prim.Native.Nat.{◌≤◌}
use Rattle.grammar.specs.Content.{rules_of}
use Rattle.acyclic.proofs.Chains.{Apart}
use Rattle.acyclic.proofs.cyclic.Given as goal

abbrev pub invariant-loop-a : goal.invariant-loop-a
invariant-loop-a l = (l.a ≤ 64) × Apart (rules_of l.g) l.a
