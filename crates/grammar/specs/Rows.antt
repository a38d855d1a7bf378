-- The rows of a tree: docs/FORMAT.md, "Tree rows".
use Rattle.std.specs.Prelude.{List, [], ◌∷◌, ◌++◌, ℕ, zero, suc, ◌+◌, length}
use Rattle.grammar.specs.Trees.{Tree, empty, leaf, unary, binary, word}

-- the start in a row: of a word of n tokens from i on; an empty word has start 0
abbrev pub start_of : ℕ → ℕ → ℕ
start_of i zero = 0
start_of i (suc n) = i

-- the rows of t, whose word starts at i, in walking order; a row is four bytes:
-- nonterminal, kind (0 E, 1 A, 2 U, 3 B), start, length
abbrev pub rows : ℕ → Tree → List ℕ
rows i (empty A) = A ∷ 0 ∷ 0 ∷ 0 ∷ []
rows i (leaf A t) = A ∷ 1 ∷ i ∷ 1 ∷ []
rows i (unary A t) = A ∷ 2 ∷ start_of i (length (word t)) ∷ length (word t) ∷ rows i t
rows i (binary A s t) =
    A ∷ 3 ∷ start_of i (length (word s ++ word t)) ∷ length (word s ++ word t)
    ∷ (rows i s ++ rows (i + length (word s)) t)

-- how many rows t has
abbrev pub row_count : Tree → ℕ
row_count (empty A) = 1
row_count (leaf A t) = 1
row_count (unary A t) = suc (row_count t)
row_count (binary A s t) = suc (row_count s + row_count t)
