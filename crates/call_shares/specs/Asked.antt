-- A share that was asked for on a rule sheet, with words enough (for laws).
use Rattle.std.specs.Prelude.{List, ℕ, ◌*◌, ◌≤◌, length}
use Rattle.grammar.specs.SpanSheet.{pairs}
use Rattle.call_shares.specs.Share.{ShareResult, ShareOf}

-- r is the reply of share i of p over n tokens, whatever words were lent, if they were enough
pub record Asked (rules : List ℕ) (n p i : ℕ) (r : ShareResult) : Type 0 where
  pub words : List ℕ
  pub after : List ℕ
  pub enough : 2 * pairs n ≤ length words
  pub replied : ShareOf rules n p i words after r
