-- Least heights, and the numbers that hold them for each span and nonterminal: docs/FORMAT.md,
-- "Looping sheets".
use Rattle.std.specs.Prelude.{◌≡◌, List, ℕ, ◌+◌, ◌*◌, ◌≤◌, length, get_or}
use Rattle.grammar.specs.Layout.{Word}
use Rattle.grammar.specs.Trees.{Tree, Rules, Witness, Derives}
use Rattle.grammar.specs.Choices.{height}
use Rattle.grammar.specs.SpanSheet.{part, pair_at}

-- some valid tree of A over w is h high, and none is lower
pub record LeastHeight (g : Rules) (A : ℕ) (w : Word) (h : ℕ) : Type 0 where
  pub tree : Tree
  pub witness : Witness g A w tree
  pub high : height tree ≡ h
  pub lowest : (t : Tree) → Witness g A w t → h ≤ height t

-- the number of A at the span of len tokens from s on, of n tokens; 65535 says that A has no tree
-- there
abbrev pub number_at : List ℕ → ℕ → ℕ → ℕ → ℕ → ℕ
number_at l n s len A = get_or l (2081 * A + pair_at n s len) 65535

-- l holds the least heights of w: 2081 numbers a nonterminal, one for each pair of the longest span
-- sheet
pub record HeightSheet (g : Rules) (w : Word) (l : List ℕ) : Type 0 where
  pub long : length l ≡ 133184
  pub least : (s len A : ℕ) → s + len ≤ length w → Derives g A (part w s len)
      → LeastHeight g A (part w s len) (number_at l (length w) s len A)
