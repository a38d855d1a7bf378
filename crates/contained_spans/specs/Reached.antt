-- Words that say what some whole tree contains: one word a pair of the span sheet (inner).
use Rattle.std.specs.Prelude.{List, ℕ, get_or}
use Rattle.sets.specs.Sets.{In}
use Rattle.grammar.specs.SpanSheet.{pair_at}

-- the table of such words: start, length, nonterminal
abbrev pub Bit : List ℕ → ℕ → ℕ → ℕ → ℕ → Type 0
Bit rs n s len A = In (get_or rs (pair_at n s len) 0) A
