-- How the kept words are written and turned over (inner: contracts of the functions that do so).
use Rattle.std.specs.Prelude.{◌≡◌, List, ◌⊎◌, ◌↔◌, ℕ, ◌+◌, ◌*◌, ◌^◌, ◌≤◌, ◌<◌, length, get_or}
use Rattle.std.specs.Int.Bits.{bit_xor}
use Rattle.sets.specs.Sets.{In}
use Rattle.grammar.specs.declared.Rule.{Rule}
use Rattle.grammar.specs.Trees.{Rules}
use Rattle.tables.specs.Tables.{rule}
use Rattle.cuts.specs.declared.Pair.{Pair}
use Rattle.cuts.specs.Cuts.{words_of_of}
use Rattle.cuts.specs.Places.{IsBinary}
use Rattle.refilling.specs.Kept.{rule_at_of, RuleWords}

-- the words of the rule r are written from p on, if it is a B rule
pub record SetRule (ws ws' : List ℕ) (p : ℕ) (r : Rule) : Type 0 where
  pub size : length ws' ≡ length ws
  pub here : IsBinary r.clause → RuleWords ws' p r
  pub else : (q : ℕ) → (q < p) ⊎ (p + 4 ≤ q) → get_or ws' q 0 ≡ get_or ws q 0

-- those of the first m rules
pub record SetRules (g : Rules) (ws ws' : List ℕ) (m : ℕ) : Type 0 where
  pub size : length ws' ≡ length ws
  pub each : (i : ℕ) → i < m → IsBinary (rule g i).clause → RuleWords ws' (rule_at_of i) (rule g i)
  pub else : (q : ℕ) → q < 514 → get_or ws' q 0 ≡ get_or ws q 0

-- m words from `from` on are 0, and the others as they were
pub record Wiped (ws ws' : List ℕ) (from m : ℕ) : Type 0 where
  pub size : length ws' ≡ length ws
  pub zeros : (q : ℕ) → from ≤ q → q < from + m → get_or ws' q 0 ≡ 0
  pub else : (q : ℕ) → (q < from) ⊎ (from + m ≤ q) → get_or ws' q 0 ≡ get_or ws q 0

-- the word w with its bit c turned over
abbrev pub flip : ℕ → ℕ → ℕ
flip w c = bit_xor w (2 ^ c)

-- the bit c is turned over in every second word from p on, by the members of the set that are not
-- left
pub record Turning (ws ws' : List ℕ) (p set c left : ℕ) : Type 0 where
  pub size : length ws' ≡ length ws
  pub subset : (a : ℕ) → In left a → In set a
  pub here : (a : ℕ) → In set a → (In left a → ⊥)
      → get_or ws' (p + 2 * a) 0 ≡ flip (get_or ws (p + 2 * a) 0) c
  pub else : (q : ℕ) → ((a : ℕ) → In set a → (In left a → ⊥) → q ≡ p + 2 * a → ⊥)
      → get_or ws' q 0 ≡ get_or ws q 0

-- by all members
pub record TurnBits (ws ws' : List ℕ) (p set c : ℕ) : Type 0 where
  pub size : length ws' ≡ length ws
  pub here : (a : ℕ) → In set a → get_or ws' (p + 2 * a) 0 ≡ flip (get_or ws (p + 2 * a) 0) c
  pub else : (q : ℕ) → ((a : ℕ) → In set a → q ≡ p + 2 * a → ⊥) → get_or ws' q 0 ≡ get_or ws q 0

-- the bit c of the pairs of words from p on says what t has
pub record HasBits (ws : List ℕ) (p : ℕ) (t : Pair) (c : ℕ) : Type 0 where
  pub once : (A : ℕ) → A < 64 → In (words_of_of ws p A).one c ↔ In t.one A
  pub twice : (A : ℕ) → A < 64 → In (words_of_of ws p A).two c ↔ In t.two A

-- now it does, and all else is as it was
pub record Turned (ws ws' : List ℕ) (p : ℕ) (t : Pair) (c : ℕ) : Type 0 where
  pub size : length ws' ≡ length ws
  pub has : HasBits ws' p t c
  pub once : (A k : ℕ) → A < 64 → (k ≡ c → ⊥)
      → In (words_of_of ws' p A).one k ↔ In (words_of_of ws p A).one k
  pub twice : (A k : ℕ) → A < 64 → (k ≡ c → ⊥)
      → In (words_of_of ws' p A).two k ↔ In (words_of_of ws p A).two k
  pub else : (q : ℕ) → (q < p) ⊎ (p + 128 ≤ q) → get_or ws' q 0 ≡ get_or ws q 0

-- the same of rows, at the cut e: there is no cut 64
pub record TurnedRow (ws ws' : List ℕ) (p : ℕ) (t : Pair) (e : ℕ) : Type 0 where
  pub size : length ws' ≡ length ws
  pub inner : e < 64 → Turned ws ws' p t e
  pub last : 64 ≤ e → ws' ≡ ws

-- the words before rows and columns are as they were: the table of chains and the B rules
pub record SameRules (ws ws' : List ℕ) : Type 0 where
  pub size : length ws' ≡ length ws
  pub first : (q : ℕ) → q < 1026 → get_or ws' q 0 ≡ get_or ws q 0
