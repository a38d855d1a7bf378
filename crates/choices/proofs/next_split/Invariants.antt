-- The loop's invariant: the clause fits with no left length passed.
use Prim.Native.Nat.{ℕ, ◌≤◌, ◌<◌}
use Rattle.tables.specs.Tables.{One, by_marks, Fits}
use Rattle.choices.proofs.next_split.Given as goal

abbrev pub invariant-loop-left : goal.invariant-loop-left
invariant-loop-left l = (l.from ≤ l.left)
    × ((j : ℕ) → j < l.left → l.from ≤ j
    → Fits (One l.words l.n) (by_marks l.k l.len) l.start l.len l.c j → ⊥)
