-- Filling the span sheet, span by span (inner: contracts of the functions that fill it).
use Rattle.std.specs.Prelude.{◌≡◌, List, ◌⊎◌, ℕ, ◌+◌, ◌*◌, ◌≤◌, ◌<◌, length}
use Rattle.grammar.specs.Trees.{Rules}
use Rattle.grammar.specs.SpanSheet.{pairs, pair_at, first_word, second_word}
use Rattle.marks.specs.declared.Draft.{Draft}
use Rattle.marks.specs.Half.{Half}
use Rattle.marks.specs.Drafts.{drafted}
use Rattle.spans.specs.Changes.{Kept, Past}
use Rattle.tables.specs.Tables.{One, Two}
use Rattle.tables.specs.Settled.{Settled}

-- the draft is as long as its count says, and no more of it is known
pub record Whole {N : ℕ} (d : Draft N) : Type 0 where
  pub few : d.count ≤ 64
  pub long : length (drafted d) ≡ d.count
  pub inner : d.known ≤ d.count

-- the span is settled, and no other pair has changed
pub record Closed (ws ws' : List ℕ) (g : Rules) (h : Half) (n s len : ℕ) : Type 0 where
  pub kept : Kept ws ws' (pair_at n s len)
  pub settled : Settled (One ws' n) (Two ws' n) g h s len

-- the pairs of single tokens are as they were
pub record Given (ws ws' : List ℕ) (n : ℕ) : Type 0 where
  pub first : (i : ℕ) → i < n → first_word ws' n i 1 ≡ first_word ws n i 1
  pub second : (i : ℕ) → i < n → second_word ws' n i 1 ≡ second_word ws n i 1

-- the span is passed: it ends at or before `from`, has at most a token, begins past s, or begins at
-- s and has fewer than len tokens
abbrev pub SpanPassed : ℕ → ℕ → ℕ → ℕ → ℕ → Type 0
SpanPassed from s len a b = (a + b ≤ from) ⊎ ((b < 2) ⊎ ((s < a) ⊎ ((a ≡ s) × (b < len))))

-- the spans that are passed are settled
pub record Filled (ws : List ℕ) (g : Rules) (h : Half) (n from s len : ℕ) : Type 0 where
  pub done : (a b : ℕ) → a + b ≤ n → SpanPassed from s len a b
      → Settled (One ws n) (Two ws n) g h a b

-- so are all that begin at or past s; the pairs of single tokens and the words past the sheet are
-- as they were
pub record FilledFrom (ws ws' : List ℕ) (g : Rules) (h : Half) (n from s : ℕ) : Type 0 where
  pub filled : Filled ws' g h n from s (n + 1)
  pub given : Given ws ws' n
  pub past : Past (2 * pairs n) ws ws'
