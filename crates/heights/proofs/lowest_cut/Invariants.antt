-- The loop's invariant: the least of the left lengths passed.
use mathlib.Core.Path.{◌≡◌}
use Prim.Native.Nat.{◌≤◌}
use mathlib.Core.Logic.{◌⊎◌}
use Rattle.grammar.specs.declared.Clause.TheVariants as Clause
use Rattle.tables.specs.Tables.{by_marks}
use Rattle.heights.specs.Tall.{table, Lowest}
use Rattle.heights.proofs.lowest_cut.Given as goal

abbrev pub invariant-loop-left : goal.invariant-loop-left
invariant-loop-left l = (1 ≤ l.left) × ((l.left ≤ l.len) ⊎ (l.left ≡ 1))
    × Lowest (table l.hs l.n) (by_marks l.k l.len) l.start l.len (Clause.Binary l.b l.e l.m) 1
    l.left l.best
