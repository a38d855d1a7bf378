-- What a read of the span sheet asks for (inner).
use Rattle.std.specs.Prelude.{List, ℕ, ◌+◌, ◌*◌, ◌≤◌, ◌<◌, length}
use Rattle.grammar.specs.SpanSheet.{pairs}

-- the words hold a span sheet of n tokens, and the span and the nonterminal are in reach
pub record Reach (ws : List ℕ) (n s len a : ℕ) : Type 0 where
  pub few : n ≤ 64
  pub fits : s + len ≤ n
  pub enough : 2 * pairs n ≤ length ws
  pub small : a < 64
