-- Words of cuts of a filled span sheet (inner). A cut is the place of the token behind it.
use Rattle.std.specs.Prelude.{◌≡◌, List, ◌↔◌, ℕ, ◌+◌, ◌-◌, ◌*◌, ◌≤◌, ◌<◌, length, get_or}
use Rattle.sets.specs.Sets.{In}
use Rattle.grammar.specs.SpanSheet.{first_word}
use Rattle.tables.specs.Tables.{One}

-- the column of the end j stands from 64 * j on; no tree ends at 0, and the row of the start stands
-- there
pub record Columns (ws : List ℕ) (n : ℕ) (cs : List ℕ) : Type 0 where
  pub long : length cs ≡ 4160
  pub column : (j C c : ℕ) → 0 < j → j ≤ n → C < 64
      → In (get_or cs (64 * j + C) 0) c ↔ ((c < j) × One ws n c (j - c) C)

-- the row is that of s; cut n has no bit, since no part begins there
pub record CutTable (ws : List ℕ) (n s : ℕ) (cs : List ℕ) : Type 0 where
  pub columns : Columns ws n cs
  pub row : (B c : ℕ) → B < 64
      → In (get_or cs B 0) c ↔ ((s < c) × (c < n) × One ws n s (c - s) B)

-- ---- bits that are put in: of the word q the bit c

-- bit c of the words from p on, by the members of a set
abbrev pub SetBits : ℕ → ℕ → ℕ → ℕ → ℕ → Type 0
SetBits p set c q k = (A : ℕ) × In set A × ((A < 64) × (q ≡ p + A) × (k ≡ c))

-- the trees from s on, in the columns of their ends
abbrev pub EndBits : List ℕ → ℕ → ℕ → ℕ → ℕ → Type 0
EndBits ws n s q k =
    (j : ℕ) × ((s < j) × (j ≤ n) × SetBits (64 * j) (first_word ws n s (j - s)) s q k)

-- all trees that begin before m
abbrev pub StartBits : List ℕ → ℕ → ℕ → ℕ → ℕ → Type 0
StartBits ws n m q k = (s : ℕ) × (s < m) × EndBits ws n s q k

-- the trees from s on, in its row
abbrev pub RowBits : List ℕ → ℕ → ℕ → ℕ → ℕ → Type 0
RowBits ws n s q k =
    (j : ℕ) × ((s < j) × (j < n) × SetBits 0 (first_word ws n s (j - s)) j q k)
