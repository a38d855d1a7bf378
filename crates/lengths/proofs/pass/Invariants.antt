-- `lengths::pass` meets its contract. The loop's invariant: the first p rules were passed.
use Prim.Native.Nat.{◌≤◌}
use Rattle.grammar.specs.Content.{rules_of}
use Rattle.lengths.specs.Passes.{LengthsPassed}
use Rattle.lengths.proofs.pass.Given as goal

abbrev pub invariant-loop-p : goal.invariant-loop-p
invariant-loop-p l = (l.p ≤ l.g.count)
    × LengthsPassed (rules_of l.g) l.p l.initial.w.index l.w.index l.w.grown
