-- The span sheet: docs/FORMAT.md, "The span sheet".
use Rattle.std.specs.Prelude.{List, ◌↔◌, ℕ, zero, suc, ◌+◌, ◌-◌, ◌*◌, ◌/◌, ◌≤◌, ◌<◌, length, get_or}
use Rattle.std.specs.Prelude.{take, drop}
use Rattle.sets.specs.Sets.{In}
use Rattle.grammar.specs.Layout.{Word}
use Rattle.grammar.specs.Trees.{Rules, Derives, TwoTrees}

-- the word of the span of len tokens from s on
abbrev pub part : Word → ℕ → ℕ → Word
part w s len = take len (drop s w)

-- how many pairs of words the span sheet of n tokens has
unfoldable pub pairs : ℕ → ℕ
pairs n = 1 + n * (n + 1) / 2

-- how many spans of 1 to l tokens n tokens have
unfoldable pub spans : ℕ → ℕ → ℕ
spans n zero = 0
spans n (suc l) = spans n l + (n - l)

-- which pair is that of the span of len tokens from s on: pair 0 is the empty word; then length 1
-- from start 0 upward, then length 2, and so on
unfoldable pub pair_at : ℕ → ℕ → ℕ → ℕ
pair_at n s zero = 0
pair_at n s (suc l) = 1 + spans n l + s

-- the first and the second word of a span's pair
abbrev pub first_word : List ℕ → ℕ → ℕ → ℕ → ℕ
first_word ws n s len = get_or ws (2 * pair_at n s len) 0

abbrev pub second_word : List ℕ → ℕ → ℕ → ℕ → ℕ
second_word ws n s len = get_or ws (2 * pair_at n s len + 1) 0

-- the words ws begin with the span sheet of w:
-- bit A of a pair's first word is 1 exactly if A has a valid tree there, of the second exactly if
-- it has at least two
pub record SpanSheet (g : Rules) (w : Word) (ws : List ℕ) : Type 0 where
  pub enough : 2 * pairs (length w) ≤ length ws
  pub one : (s len A : ℕ) → s + len ≤ length w → A < 64
      → In (first_word ws (length w) s len) A ↔ Derives g A (part w s len)
  pub two : (s len A : ℕ) → s + len ≤ length w → A < 64
      → In (second_word ws (length w) s len) A ↔ TwoTrees g A (part w s len)
