-- The loop's invariant: only passes were made. The measure is what the two sets can still grow by.
use Prim.Native.Nat.{◌+◌, ◌-◌, ◌^◌}
use Rattle.grammar.specs.Content.{rules_of}
use Rattle.joins.specs.Passes.{Passes}
use Rattle.links.proofs.passes.Given as goal

abbrev pub invariant-loop-t : goal.invariant-loop-t
invariant-loop-t l = Passes l.e.one l.e.two l.k l.len (rules_of l.w) l.b l.t

abbrev pub decreases-loop-t : goal.decreases-loop-t
decreases-loop-t l = 2 ^ 65 - (l.t.one + l.t.two)
