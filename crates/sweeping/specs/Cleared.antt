-- The candidates that a sweep tries, and the words that it leaves.
use Rattle.std.specs.Prelude.{List, ◌++◌, ℕ, ◌*◌, drop, replicate}
use Rattle.grammar.specs.declared.Cell.{Cell}
use Rattle.grammar.specs.Trees.{Rules}
use Rattle.grammar.specs.Candidates.{Terminal}
use Rattle.grammar.specs.Sweeps.{SweepAnswer}
use Rattle.lengths.specs.Lengths.{CanHave}
use Rattle.tried_count.specs.Tried.{Tried}
use Rattle.grammar.specs.SpanSheet.{pairs}

-- the candidates tried: docs/FORMAT.md, "The sweep"
abbrev pub TriedBy : Rules → ℕ → SweepAnswer → List Cell → Type 0
TriedBy g k a = Tried (CanHave g 0) (Terminal g) k a

-- "After an accepted sweep the words of the span sheet for k are 0", and words past the span
-- sheet never change
abbrev pub cleared : ℕ → List ℕ → List ℕ
cleared k ws = replicate (2 * pairs k) 0 ++ drop (2 * pairs k) ws
