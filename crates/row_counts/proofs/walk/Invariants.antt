-- The loop's invariant is `Going`; each turn counts one node with tokens. The measure is what the
-- count can still grow by.
use Prim.Native.Nat.{◌-◌}
use Rattle.grammar.specs.Content.{rules_of}
use Rattle.row_counts.proofs.WalkLaws.{Going}
use Rattle.grammar.specs.Sentences.{spelled}
use Rattle.row_counts.proofs.walk.Given as goal

abbrev pub invariant-loop-total : goal.invariant-loop-total
invariant-loop-total l =
    Going (rules_of l.g) (spelled l.s) l.b l.j l.n l.end l.waits l.a l.i l.l l.total

abbrev pub decreases-loop-total : goal.decreases-loop-total
decreases-loop-total l =
    4294967296 - l.total
