-- The loop's invariant: the rules passed are tried.
use Prim.Native.Nat.{◌≤◌}
use Rattle.grammar.specs.Content.{rules_of}
use Rattle.tables.specs.Tables.{by_marks}
use Rattle.heights.specs.Falls.{HeightsTried, AllEnds}
use Rattle.heights.proofs.lower_all.Given as goal

abbrev pub invariant-loop-i : goal.invariant-loop-i
invariant-loop-i l =
    (l.i ≤ l.g.count) × HeightsTried (rules_of l.g) (by_marks l.k l.len) l.n l.start l.len
    (AllEnds l.len l.i) l.initial.hs l.hs l.fell
