-- What the answer of a sweep says (for the worked examples).
use Rattle.std.specs.Prelude.{ℕ}
use Rattle.grammar.specs.Trees.{Rules}
use Rattle.grammar.specs.Sweeps.{Clear, FirstTwo, SweepAnswer, clear, found}

abbrev pub Answers : Rules → ℕ → SweepAnswer → Type 0
Answers g k clear = Clear g k
Answers g k (found cs) = FirstTwo g k cs
