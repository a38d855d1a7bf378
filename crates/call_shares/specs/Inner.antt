-- For the contracts of inner functions only.
use Rattle.std.specs.Prelude.{ℕ, Option}
use Rattle.grammar.specs.declared.Sentence.{Sentence}
use Rattle.sweep_answers.specs.Sweep.{found_or}

-- the number of tokens that were found, 0 where none were
abbrev pub found_count : Option Sentence → ℕ
found_count s = (found_or s).count
