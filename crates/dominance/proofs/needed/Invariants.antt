-- The loop's invariant: the terminals below x are kept or replaced.
use Prim.Native.Nat.{◌≤◌}
use Rattle.grammar.specs.Content.{rules_of}
use Rattle.dominance.specs.Dominance.{Spares}
use Rattle.dominance.proofs.needed.Given as goal

abbrev pub invariant-loop-x : goal.invariant-loop-x
invariant-loop-x l = (l.x ≤ 64) × Spares (rules_of l.g) l.set l.x l.kept
