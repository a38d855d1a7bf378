-- The loop's invariant: the trees that end before `end` are put in.
use mathlib.Core.List.{List}
use Prim.Native.Nat.{ℕ, ◌-◌, ◌≤◌, ◌<◌}
use Rattle.grammar.specs.SpanSheet.{first_word}
use Rattle.cuts.specs.Joining.{Joins}
use Rattle.cut_tables.specs.Tables.{SetBits}
use Rattle.cut_tables.proofs.TurnLaws.{Under}
use Rattle.cut_tables.proofs.load_row.Given as goal

-- the trees that end at j
abbrev pub Turn : List ℕ → ℕ → ℕ → ℕ → ℕ → ℕ → Type 0
Turn ws n s j q k = (s < j) × SetBits 0 (first_word ws n s (j - s)) j q k

abbrev pub invariant-loop-end : goal.invariant-loop-end
invariant-loop-end l = (l.start < l.end) × (l.end ≤ l.n)
    × Joins (Under (Turn l.words l.n l.start) l.end) l.initial.cuts l.cuts
