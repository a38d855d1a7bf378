-- The loop's invariant: the rows passed are done. Once all are, the numbers are the least heights.
use Prim.Native.Nat.{◌+◌, ◌≤◌}
use Rattle.grammar.specs.Content.{rules_of}
use Rattle.marks.specs.Drafts.{drafted}
use Rattle.heights.specs.Filled.{Filled}
use Rattle.heights.proofs.settle_all.Given as goal

abbrev pub invariant-loop-len : goal.invariant-loop-len
invariant-loop-len l =
    (l.len ≤ l.d.count + 1) × Filled l.hs (rules_of l.g) (drafted l.d) 0 l.len
