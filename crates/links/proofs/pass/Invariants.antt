use Prim.Native.Nat.{◌≤◌}
use Rattle.grammar.specs.Content.{rules_of}
use Rattle.joins.specs.Passes.{Pass}
use Rattle.links.proofs.pass.Given as goal

abbrev pub invariant-loop-i : goal.invariant-loop-i
invariant-loop-i l =
    (l.i ≤ l.w.count) × Pass l.e.one l.e.two l.k l.len (rules_of l.w) l.initial.u l.i l.u
