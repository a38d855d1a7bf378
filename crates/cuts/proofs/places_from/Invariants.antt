use Prim.Native.Nat.{◌≤◌}
use Rattle.grammar.specs.Content.{rules_of}
use Rattle.cuts.specs.Places.{PlacedAt}
use Rattle.cuts.proofs.places_from.Given as goal

abbrev pub invariant-loop-i : goal.invariant-loop-i
invariant-loop-i l = (l.i ≤ 64) × PlacedAt (rules_of l.g) l.base l.i l.set
