-- Members put into a word of a table. For the contracts of inner functions only.
use Rattle.std.specs.Prelude.{◌≡◌, Bool, true, false, List, [], ◌∷◌, ◌⊎◌, ℕ, ◌+◌, ◌*◌, ◌%◌, ◌^◌}
use Rattle.std.specs.Prelude.{◌≤◌, ◌<◌, min, length, get_or}
use Rattle.std.specs.Int.Bits.{bit_and, bit_or}
use Rattle.sets.specs.Sets.{In}
use Rattle.pairs.specs.Relations.{order}
use Rattle.pair_offsets.specs.declared.Frame.{Frame}
use Rattle.pair_offsets.specs.Codes.{order_code}
use Rattle.pair_steps.specs.declared.Node.{Node}
use Rattle.pair_steps.specs.declared.Words.{Words}
use Rattle.pair_steps.specs.Leaving.{StartsMost, OffsetsFound}
use Rattle.pair_steps.specs.Tokens.{TokensLeave, TokensFound}
use Rattle.pair_steps.specs.Tables.{WordsOf, NextsOf}

-- the sum of a list's words: it grows where a word gets a member more
abbrev pub word_sum : List ℕ → ℕ
word_sum [] = 0
word_sum (n ∷ l) = n + word_sum l

-- the word at a place has the members of a set besides, and the others are as they were; r says
-- that it had them all
pub record Joined (old new : List ℕ) (at set : ℕ) (r : Bool) : Type 0 where
  pub size : length new ≡ length old
  pub other : (i : ℕ) → (i ≡ at → ⊥) → get_or new i 0 ≡ get_or old i 0
  pub word : get_or new at 0 ≡ bit_or (get_or old at 0) set
  pub still : r ≡ true → new ≡ old
  pub least : word_sum old ≤ word_sum new
  pub more : r ≡ false → word_sum old < word_sum new

-- three words have the members of three sets besides; r says that they had them all
pub record Put (old new : List ℕ) (a b c s p q : ℕ) (r : Bool) : Type 0 where
  pub size : length new ≡ length old
  pub keeps : (i z : ℕ) → In (get_or old i 0) z → In (get_or new i 0) z
  pub has₁ : (z : ℕ) → In s z → In (get_or new a 0) z
  pub has₂ : (z : ℕ) → In p z → In (get_or new b 0) z
  pub has₃ : (z : ℕ) → In q z → In (get_or new c 0) z
  pub only : (i z : ℕ) → In (get_or new i 0) z
      → In (get_or old i 0) z ⊎ ((i ≡ a) × In s z) ⊎ ((i ≡ b) × In p z) ⊎ ((i ≡ c) × In q z)
  pub other : (i : ℕ) → (i ≡ a → ⊥) → (i ≡ b → ⊥) → (i ≡ c → ⊥) → get_or new i 0 ≡ get_or old i 0
  pub still : r ≡ true → new ≡ old
  pub least : word_sum old ≤ word_sum new
  pub more : r ≡ false → word_sum old < word_sum new

-- the offsets, as bits of the word of relations with these orders
abbrev pub relation_bits : Frame → ℕ → ℕ
relation_bits f r =
    (bit_and r 15 * 2 ^ (12 * order_code (order f.start f.begin)
    + 4 * order_code (order f.stop f.end)))
    % 2 ^ 64

abbrev pub next_place : Frame → ℕ → ℕ → ℕ
next_place f a b =
    28672
    + (9 * (64 * a + b)
    + (3 * order_code (order f.start f.begin) + order_code (order f.stop f.end)))

-- the table has the offsets m of the two starts, and the terminals at the stop that comes first
pub record HasAll (f : Frame) (x y : Node) (i m : ℕ) (t : List ℕ) : Type 0 where
  pub nexts : Words
  pub read : NextsOf t f x y nexts
  pub node : (z : ℕ) → In (relation_bits f m) z → In (get_or t (64 * i + y.sort) 0) z
  pub sort : (z : ℕ) → In (relation_bits f m) z → In (get_or t (24576 + (64 * x.sort + y.sort)) 0) z
  pub next : (z : ℕ) → z < 64 → TokensLeave f x y nexts (min f.stop f.end) z
      → In (get_or t (next_place f x.sort y.sort) 0) z

pub record HasSays (f : Frame) (x y : Node) (i m : ℕ) (t : List ℕ) (r : Bool) : Type 0 where
  pub is : r ≡ true → HasAll f x y i m t

-- a step of two nodes over a frame: the table has all that it could add, or no offsets are left, or
-- no terminals, or both are put into the table
pub data Stepped (f : Frame) (x y : Node) (i j : ℕ) (list : List ℕ) (from end : ℕ) : List ℕ → List ℕ
    → Bool → Type 0 where
  has_all : {t : List ℕ} {w : Words} {m : ℕ} → WordsOf t x y i j w → StartsMost f x y w m
      → HasAll f x y i m t → Stepped f x y i j list from end t t true
  no_offsets : {t : List ℕ} {w : Words} → WordsOf t x y i j w → OffsetsFound f x y w list from end 0
      → Stepped f x y i j list from end t t true
  no_terminals : {t : List ℕ} {w n : Words} {r : ℕ} → WordsOf t x y i j w
      → OffsetsFound f x y w list from end r → NextsOf t f x y n → TokensFound f x y n 0
      → Stepped f x y i j list from end t t true
  puts : {t u : List ℕ} {w n : Words} {r q : ℕ} {b : Bool} → WordsOf t x y i j w
      → OffsetsFound f x y w list from end r → (r ≡ 0 → ⊥) → NextsOf t f x y n
      → TokensFound f x y n q
      → (q ≡ 0 → ⊥) → Put t u (64 * i + y.sort) (24576 + (64 * x.sort + y.sort))
      (next_place f x.sort y.sort)
      (relation_bits f r) (relation_bits f r) q b → Stepped f x y i j list from end t u b
