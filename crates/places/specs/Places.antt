-- The places at which the readings of a sentence part, and their list: docs/FORMAT.md, "Calls and
-- lent memory".
use Rattle.std.specs.Prelude.{◌≡◌, ◌⊎◌, ℕ, ◌+◌, ◌<◌, length}
use mathlib.Core.List.{List, [], ◌∷◌, Memᴰ}
use Rattle.grammar.specs.Layout.{Word, Every}
use Rattle.grammar.specs.Trees.{Tree, unary, binary, root, word, Rules, Witness}
use Rattle.grammar.specs.Choices.{Choice, Same}
use Rattle.grammar.specs.Rows.{start_of}
use Rattle.grammar.specs.SpanSheet.{part}

-- A has two or more choices at w
pub record Several (g : Rules) (A : ℕ) (w : Word) : Type 0 where
  pub place₁ : ℕ
  pub split₁ : ℕ
  pub place₂ : ℕ
  pub split₂ : ℕ
  pub choice₁ : Choice g A w place₁ split₁
  pub choice₂ : Choice g A w place₂ split₂
  pub differ : Same place₁ split₁ place₂ split₂ → ⊥

-- in the tree T, whose word starts at i, stands the node t, whose word starts at j
pub data StandsIn (t : Tree) : ℕ → Tree → ℕ → Type 0 where
  top : {i : ℕ} → StandsIn t i t i
  below : {i j A : ℕ} {s : Tree} → StandsIn t i s j → StandsIn t i (unary A s) j
  left : {i j A : ℕ} {u v : Tree} → StandsIn t i u j → StandsIn t i (binary A u v) j
  right : {i j A : ℕ} {u v : Tree} → StandsIn t (i + length (word u)) v j
      → StandsIn t i (binary A u v) j

-- some whole valid tree of the sentence contains A over the word of len tokens from start on; an
-- empty word has start 0
pub record Contains (g : Rules) (ts : Word) (A start len : ℕ) : Type 0 where
  pub whole : Tree
  pub witness : Witness g 0 ts whole
  pub node : Tree
  pub from : ℕ
  pub inside : StandsIn node 0 whole from
  pub rooted : root node ≡ A
  pub long : length (word node) ≡ len
  pub starts : start_of from len ≡ start

-- and A has two or more choices there
pub record Place (g : Rules) (ts : Word) (A start len : ℕ) : Type 0 where
  pub contained : Contains g ts A start len
  pub several : Several g A (part ts start len)

-- an entry of the list
pub record Entry : Type 0 where
  pub nonterminal : ℕ
  pub start : ℕ
  pub len : ℕ

-- longest word first, then by start, then by nonterminal
abbrev pub Sooner : Entry → Entry → Type 0
Sooner e f =
    (f.len < e.len)
    ⊎ ((e.len ≡ f.len) × (e.start < f.start))
    ⊎ ((e.len ≡ f.len) × (e.start ≡ f.start) × (e.nonterminal < f.nonterminal))

-- each entry comes sooner than those after it
abbrev pub Ordered : List Entry → Type 0
Ordered [] = Unit {0}
Ordered (e ∷ es) = Every (Sooner e) es × Ordered es

-- es lists every place of the sentence, and no more, in that order
pub record AllPlaces (g : Rules) (ts : Word) (es : List Entry) : Type 0 where
  pub each : Every (λ e. Place g ts e.nonterminal e.start e.len) es
  pub all : (A start len : ℕ) → Place g ts A start len
      → Memᴰ (record { nonterminal = A; start = start; len = len }) es
  pub ordered : Ordered es

-- an entry is three bytes: nonterminal, start, length
abbrev pub entry_bytes : Entry → List ℕ
entry_bytes e = e.nonterminal ∷ e.start ∷ e.len ∷ []
