use Prim.Native.Nat.{◌≤◌}
use Rattle.grammar.specs.Content.{rules_of}
use Rattle.chains.specs.Chains.{Unranked}
use Rattle.chains.proofs.unranked.Given as goal

abbrev pub invariant-loop-i : goal.invariant-loop-i
invariant-loop-i l = (l.i ≤ l.g.count) × Unranked l.l (rules_of l.g) l.i
