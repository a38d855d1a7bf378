-- The table of the pairs that the search gives to single tokens, and the words that begin with them
-- (inner: only the proofs of the search need it).
use Rattle.std.specs.Prelude.{◌≡◌, List, ℕ, ◌+◌, ◌*◌, ◌≤◌, ◌<◌, length, get_or}
use Rattle.sets.specs.Sets.{In}
use Rattle.grammar.specs.declared.Cell.{Cell}
use Rattle.grammar.specs.Trees.{Rules}
use Rattle.grammar.specs.SpanSheet.{pairs, first_word, second_word}
use Rattle.spans.specs.Changes.{Past}
use Rattle.candidates.specs.Terminals.{Among}
use Rattle.chart.specs.Leaves.{EmptyPair, Leaf, Allows}
use Rattle.pruning.specs.Refuting.{terminal_at_of}

-- at 2 x the pair of the terminal x, for each of the set s; at 128 the pair of a token that may
-- have any of them; at 130 that of the empty word
pub record Tabled (g : Rules) (s : ℕ) (table : List ℕ) : Type 0 where
  pub long : length table ≡ 132
  pub leaf : (x : ℕ) → Among s x → Leaf g x (get_or table (2 * x) 0) (get_or table (2 * x + 1) 0)
  pub any : (x : ℕ) → Among s x → Allows g x (get_or table 128 0) (get_or table 129 0)
  pub empty : EmptyPair g (get_or table 130 0) (get_or table 131 0)

-- so far: of the terminals below m, and p and q have what their pairs have
pub record Gathered (g : Rules) (s m : ℕ) (table table' : List ℕ) (p q : ℕ) : Type 0 where
  pub leaf : (x : ℕ) → x < m → In s x
      → Leaf g x (get_or table' (2 * x) 0) (get_or table' (2 * x + 1) 0)
  pub any : (x : ℕ) → x < m → In s x → Allows g x p q
  pub past : Past 128 table table'

-- r has the members of a and of b
pub record United (a b r : ℕ) : Type 0 where
  pub left : (A : ℕ) → In a A → In r A
  pub right : (A : ℕ) → In b A → In r A

-- the first b terminals are terminals
pub record Small (cs : List Cell) (b : ℕ) : Type 0 where
  pub small : (i : ℕ) → i < b → terminal_at_of cs i < 64

-- which pair of the table the token at i is given at first: that of its terminal, if it is one of
-- the first b, else that of any
pub record Slot (cs : List Cell) (b i r : ℕ) : Type 0 where
  pub known : i < b → r ≡ terminal_at_of cs i
  pub free : b ≤ i → r ≡ 64

-- the token at i has the pair r of the table
pub record TakesPair (table ws : List ℕ) (n i r : ℕ) : Type 0 where
  pub first : first_word ws n i 1 ≡ get_or table (2 * r) 0
  pub second : second_word ws n i 1 ≡ get_or table (2 * r + 1) 0

-- the first i tokens have their first pairs
pub record LeavesPutTo (table : List ℕ) (cs : List Cell) (n b i : ℕ) (ws ws' : List ℕ) : Type
    0 where
  pub takes : (k : ℕ) → k < i → (r : ℕ) → Slot cs b k r → TakesPair table ws' n k r
  pub past : Past (2 * pairs n) ws ws'

-- so have all, and the empty word its own
pub record LeavesPut (table : List ℕ) (cs : List Cell) (n b : ℕ) (ws ws' : List ℕ) : Type 0 where
  pub tokens : LeavesPutTo table cs n b n ws ws'
  pub first : get_or ws' 0 0 ≡ get_or table 130 0
  pub second : get_or ws' 1 0 ≡ get_or table 131 0
