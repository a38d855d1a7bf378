use Prim.Native.Nat.{◌≤◌}
use Rattle.grammar.specs.Content.{rules_of}
use Rattle.chains.specs.Chains.{HoldsAt}
use Rattle.chains.specs.Reaching.{Branches}
use Rattle.chains.proofs.counts.Given as goal

abbrev pub invariant-loop-i : goal.invariant-loop-i
invariant-loop-i l =
    (l.i ≤ l.g.count) × Branches (rules_of l.g) (HoldsAt l.l) l.e l.base l.i l.seen l.twice
