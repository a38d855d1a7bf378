-- How a call changes lent words.
use Rattle.std.specs.Prelude.{◌≡◌, List, ℕ, ◌+◌, ◌*◌, ◌≤◌, ◌<◌, length, get_or}

-- the words from k on are as they were, and no word is added or lost: "Words past the span
-- sheet never change"
pub record Past (k : ℕ) (ws ws' : List ℕ) : Type 0 where
  pub long : length ws' ≡ length ws
  pub rest : (q : ℕ) → k ≤ q → get_or ws' q 0 ≡ get_or ws q 0

-- the first n words are 0, and the others as they were
pub record Cleared (ws ws' : List ℕ) (n : ℕ) : Type 0 where
  pub zeros : (q : ℕ) → q < n → get_or ws' q 0 ≡ 0
  pub past : Past n ws ws'

-- ws' is ws but for the pair p
pub record Kept (ws ws' : List ℕ) (p : ℕ) : Type 0 where
  pub long : length ws' ≡ length ws
  pub rest : (q : ℕ) → (q ≡ 2 * p → ⊥) → (q ≡ 2 * p + 1 → ⊥) → get_or ws' q 0 ≡ get_or ws q 0

-- and holds a and b there
pub record WrotePair (ws ws' : List ℕ) (p a b : ℕ) : Type 0 where
  pub kept : Kept ws ws' p
  pub first : get_or ws' (2 * p) 0 ≡ a
  pub second : get_or ws' (2 * p + 1) 0 ≡ b
