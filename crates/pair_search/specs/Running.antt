-- What steps make of a table, one after the other. For the contracts of inner functions only.
use Rattle.std.specs.Prelude.{◌≡◌, Bool, true, false, ◌&&◌, List, ℕ, ◌+◌, ◌≤◌, ◌<◌, length, get_or}
use Rattle.std.specs.Prelude.{take}
use Rattle.grammar.specs.Trees.{Rules}
use Rattle.pairs.specs.Shapes.{Head}
use Rattle.pairs.specs.Relations.{Offset}
use Rattle.pairs.specs.Settings.{Corner, Point, setting}
use Rattle.pair_offsets.specs.declared.Frame.{Frame}
use Rattle.pair_offsets.specs.Frames.{rank_of}
use Rattle.pair_steps.specs.declared.Node.{Node}
use Rattle.pair_steps.specs.Nodes.{NodeOf, shape_number}
use Rattle.pair_steps.specs.Tables.{SoundTable}
use Rattle.pair_steps.specs.Closing.{ToldBy, Kept}
use Rattle.pair_tables.specs.Reading.{Small}
use Rattle.pair_tables.specs.Stepping.{word_sum}
use Rattle.pair_nodes.specs.Slots.{node_at, Present, NodesOf}
use Rattle.pair_frames.specs.Numbering.{frame_at}
use Rattle.pair_entries.specs.Entries.{search_words, code_at, EntryAt, Useful}
use Rattle.pair_search.specs.Filling.{TableOf}

-- a node that steps can be made of
pub record Apt (v : Node) : Type 0 where
  pub small : Small v
  pub kids : v.kids < 4

-- two nodes describe heads with the shapes' numbers i and j
pub record PairOf (x y : Node) (i j : ℕ) (g : Rules) : Type 0 where
  pub head₁ : Head
  pub head₂ : Head
  pub node₁ : NodeOf g head₁ x
  pub node₂ : NodeOf g head₂ y
  pub number₁ : i ≡ shape_number head₁.shape
  pub number₂ : j ≡ shape_number head₂.shape

-- the table has what may be by it of the two nodes over the frame
pub record Settled (x y : Node) (i j : ℕ) (f : Frame) (t : List ℕ) : Type 0 where
  pub settled : (g : Rules) (p : PairOf x y i j g) (l : Corner → Corner → Offset) (n : Point → ℕ)
      → ToldBy g t (setting (rank_of f) l n) p.head₁ p.head₂
      → Kept t (setting (rank_of f) l n) p.head₁ p.head₂

-- steps lead from one table to another, which is sound for a sheet with G if the one was; r says
-- that they added nothing, and then P holds
pub record Ran (G : Rules → Type 0) (P : List ℕ → Type 0) (old new : List ℕ) (r : Bool)
    : Type 0 where
  pub size : length new ≡ length old
  pub past : (i : ℕ) → 65536 ≤ i → get_or new i 0 ≡ get_or old i 0
  pub sound : (g : Rules) → G g → SoundTable g old → SoundTable g new
  pub least : word_sum old ≤ word_sum new
  pub more : r ≡ false → word_sum old < word_sum new
  pub still : r ≡ true → new ≡ old
  pub then : r ≡ true → P old

-- the words have n entries
pub record Ready (t : List ℕ) (n : ℕ) : Type 0 where
  pub room : search_words ≤ length t
  pub few : n ≤ 256
  pub each : (k : ℕ) → k < n → EntryAt t search_words k

-- two nodes over the frames of the first n entries; the nodes i and j, if there are both; a node
-- with the last m of 384; the last m with all
pub record Met (x y : Node) (i j n : ℕ) (t : List ℕ) : Type 0 where
  pub met : (k : ℕ) → k < n → Settled x y i j (frame_at (code_at t k)) t

pub record Cell (ns : List ℕ) (i j n : ℕ) (t : List ℕ) : Type 0 where
  pub cell : Present ns i → Present ns j → Met (node_at ns i) (node_at ns j) i j n t

pub record LastCells (ns : List ℕ) (i n m : ℕ) (t : List ℕ) : Type 0 where
  pub row : (j : ℕ) → j < 384 → 384 ≤ j + m → Cell ns i j n t

pub record LastRows (ns : List ℕ) (n m : ℕ) (t : List ℕ) : Type 0 where
  pub rows : (i : ℕ) → i < 384 → 384 ≤ i + m → LastCells ns i n 384 t

-- steps of two nodes, over the frame of an entry, over those of n entries, over some
abbrev pub EntryRan : Node → Node → ℕ → ℕ → ℕ → List ℕ → List ℕ → Bool → Type 0
EntryRan x y i j k old new r =
    Ran (PairOf x y i j) (λ t. Settled x y i j (frame_at (code_at t k)) t) old new r

abbrev pub MetRan : Node → Node → ℕ → ℕ → ℕ → List ℕ → List ℕ → Bool → Type 0
MetRan x y i j n old new r = Ran (PairOf x y i j) (Met x y i j n) old new r

abbrev pub SomeRan : Node → Node → ℕ → ℕ → List ℕ → List ℕ → Bool → Type 0
SomeRan x y i j old new r = Ran (PairOf x y i j) (λ t. Unit {0}) old new r

-- steps of nodes in their places: of two, of one with all, of all with all, of some
abbrev pub CellRan : List ℕ → ℕ → ℕ → ℕ → List ℕ → List ℕ → Bool → Type 0
CellRan ns i j n old new r = Ran (λ g. NodesOf g ns) (Cell ns i j n) old new r

abbrev pub RowRan : List ℕ → ℕ → ℕ → List ℕ → List ℕ → Bool → Type 0
RowRan ns i n old new r = Ran (λ g. NodesOf g ns) (LastCells ns i n 384) old new r

abbrev pub RowsRan : List ℕ → ℕ → List ℕ → List ℕ → Bool → Type 0
RowsRan ns n old new r = Ran (λ g. NodesOf g ns) (LastRows ns n 384) old new r

abbrev pub Quick : List ℕ → List ℕ → List ℕ → Bool → Type 0
Quick ns old new r = Ran (λ g. NodesOf g ns) (λ t. Unit {0}) old new r

-- passes until one adds nothing; r says that none did
pub record Rested (ns : List ℕ) (n : ℕ) (old new : List ℕ) (r : Bool) : Type 0 where
  pub size : length new ≡ length old
  pub past : (i : ℕ) → 65536 ≤ i → get_or new i 0 ≡ get_or old i 0
  pub sound : (g : Rules) → NodesOf g ns → SoundTable g old → SoundTable g new
  pub least : word_sum old ≤ word_sum new
  pub more : r ≡ false → word_sum old < word_sum new
  pub still : r ≡ true → new ≡ old
  pub rows : LastRows ns n 384 new

-- all nodes over the useful frames with numbers below b
pub record AllTo (ns : List ℕ) (b : ℕ) (t : List ℕ) : Type 0 where
  pub all : (c : ℕ) → c < b → Useful c → (i j : ℕ) → i < 384 → j < 384 → Present ns i → Present ns j
      → Settled (node_at ns i) (node_at ns j) i j (frame_at c) t

-- r is true for the first batch, and else if both are
pub data BothSettled (p : ℕ) (x y : Bool) : Bool → Type 0 where
  at_first : p ≡ 0 → BothSettled p x y true
  later : BothSettled p x y (x && y)

-- the sum of the table's words
unfoldable pub table_sum : List ℕ → ℕ
table_sum t = word_sum (take 65536 t)

-- steps over frames entered one batch after the other, the useful frames with numbers below b
pub record Round (ns : List ℕ) (b : ℕ) (old new : List ℕ) (r : Bool) : Type 0 where
  pub size : length new ≡ length old
  pub past : (i : ℕ) → search_words ≤ i → get_or new i 0 ≡ get_or old i 0
  pub sound : (g : Rules) → NodesOf g ns → SoundTable g old → SoundTable g new
  pub least : table_sum old ≤ table_sum new
  pub more : r ≡ false → table_sum old < table_sum new
  pub all : r ≡ true → AllTo ns b new

-- rounds until one adds nothing
pub record Searched (ns old new : List ℕ) : Type 0 where
  pub size : length new ≡ length old
  pub past : (i : ℕ) → search_words ≤ i → get_or new i 0 ≡ get_or old i 0
  pub table : (g : Rules) → NodesOf g ns → SoundTable g old → TableOf g new
