-- The answer of a sweep on accepted rules (for inner functions).
use Rattle.std.specs.Prelude.{List, ℕ, Result}
use Rattle.grammar.specs.Trees.{Rules}
use Rattle.sheets.specs.declared.Refusal.{Refusal}
use Rattle.sweeping.specs.Cleared.{TriedBy}
use Rattle.sweep_answers.specs.declared.Swept.{Swept}
use Rattle.sweep_answers.specs.Sweep.{SweepTrying}

abbrev pub SweepOn : (g : Rules) (k : ℕ) (words words' : List ℕ) (r : Result Swept Refusal) → Type 0
SweepOn = SweepTrying TriedBy
