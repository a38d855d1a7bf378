-- The pairs of the empty word and of a token by itself: no mark can fail on either, so they go by
-- no position.
use Rattle.std.specs.Prelude.{◌≡◌, List, [], ◌∷◌, ◌↔◌, ℕ}
use Rattle.sets.specs.Sets.{In}
use Rattle.grammar.specs.declared.Token.{Token}
use Rattle.grammar.specs.Trees.{Rules, Derives, TwoTrees}
use Rattle.grammar.specs.SpanSheet.{first_word, second_word}

-- p and q are the pair of the empty word: what has a tree of it, and what has two
pub record EmptyPair (g : Rules) (p q : ℕ) : Type 0 where
  pub one : (A : ℕ) → In p A ↔ Derives g A []
  pub two : (A : ℕ) → In q A ↔ TwoTrees g A []

-- p and q are the pair of a token with the terminal x
pub record Leaf (g : Rules) (x p q : ℕ) : Type 0 where
  pub one : (t : Token) → t.terminal ≡ x → (A : ℕ) → In p A ↔ Derives g A (t ∷ [])
  pub two : (t : Token) → t.terminal ≡ x → (A : ℕ) → In q A ↔ TwoTrees g A (t ∷ [])

-- they have at least what its pair has
pub record Allows (g : Rules) (x p q : ℕ) : Type 0 where
  pub one : (t : Token) → t.terminal ≡ x → (A : ℕ) → Derives g A (t ∷ []) → In p A
  pub two : (t : Token) → t.terminal ≡ x → (A : ℕ) → TwoTrees g A (t ∷ []) → In q A

-- the words ws, as a span sheet of n tokens, have for the token at i the pair of the terminal x
abbrev pub LeafAt : Rules → ℕ → List ℕ → ℕ → ℕ → Type 0
LeafAt g n ws i x = Leaf g x (first_word ws n i 1) (second_word ws n i 1)

-- or at least that: the token may have it
abbrev pub May : Rules → ℕ → List ℕ → ℕ → ℕ → Type 0
May g n ws i x = Allows g x (first_word ws n i 1) (second_word ws n i 1)
