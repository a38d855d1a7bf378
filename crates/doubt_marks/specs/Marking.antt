-- The shapes that may stand over one span with themselves, the nonterminals seen by them, and the
-- pairs of shapes that may stand over one span. For the contracts of inner functions only.
use Rattle.std.specs.Prelude.{◌≡◌, ◌⊎◌, List, ℕ, ◌%◌, ◌≤◌, ◌<◌, length}
use Rattle.sets.specs.Sets.{In}
use Rattle.grammar.specs.Trees.{Rules}
use Rattle.spans.specs.Changes.{Past}
use Rattle.pair_offsets.specs.declared.Frame.{Frame}
use Rattle.pair_offsets.specs.Frames.{rank_of}
use Rattle.pair_steps.specs.declared.Node.{Node}
use Rattle.pair_steps.specs.Ranks.{Ranked}
use Rattle.pair_steps.specs.Tables.{LowTable, SoundTable}
use Rattle.pair_steps.specs.Closing.{ClosedTable}
use Rattle.pair_nodes.specs.Slots.{node_at, Present}
use Rattle.pair_nodes.specs.Putting.{NodesMade}
use Rattle.doubt_list.specs.Marks.{Bit, Marked}
use Rattle.doubt_marks.specs.Standing.{span_frame, MayOver}
use Rattle.doubt_marks.specs.Growing.{Upto}

-- the shape i may stand with itself: bit 0 of row i
pub record SelfOver (ns t : List ℕ) (f : Frame) (i p q : ℕ) : Type 0 where
  pub row : p ≡ i
  pub column : q ≡ 0
  pub may : MayOver ns t f i i

-- over the frame with the number k, if its points are numbered by rank
pub record ByFrame (X : Frame → ℕ → ℕ → Type 0) (k p q : ℕ) : Type 0 where
  pub ranked : Ranked (rank_of (span_frame k))
  pub holds : X (span_frame k) p q

abbrev pub SelfBy : List ℕ → List ℕ → ℕ → ℕ → ℕ → Type 0
SelfBy ns t = ByFrame (λ f. Upto 384 (SelfOver ns t f))

abbrev pub Self : List ℕ → List ℕ → ℕ → ℕ → Type 0
Self ns t = Upto 16 (SelfBy ns t)

-- a child of a node
abbrev pub ChildOf : Node → ℕ → Type 0
ChildOf v Y = ((0 < v.kids) × (v.first ≡ Y)) ⊎ ((1 < v.kids) × (v.second ≡ Y))

-- what the shape i adds to the nonterminals seen, s, by the bits of `al`
pub record AddsSeen (ns al : List ℕ) (s i Y : ℕ) : Type 0 where
  pub there : Present ns i
  pub self : Bit al i 0
  pub sort : In s (node_at ns i).sort
  pub child : ChildOf (node_at ns i) Y

pub data SeenBy (ns al : List ℕ) : ℕ → Type 0 where
  by_top : SeenBy ns al 0
  by_child : (i : ℕ) {Y : ℕ} → i < 384 → Present ns i → Bit al i 0 → SeenBy ns al
      (node_at ns i).sort
      → ChildOf (node_at ns i) Y → SeenBy ns al Y

-- the first n shapes led from s to r
pub record SeenPass (ns al : List ℕ) (n s r : ℕ) : Type 0 where
  pub more : s ≤ r
  pub keeps : (Y : ℕ) → In s Y → In r Y
  pub sound : ((Y : ℕ) → In s Y → SeenBy ns al Y) → (Y : ℕ) → In r Y → SeenBy ns al Y
  pub still : r ≡ s → (i : ℕ) → i < n → (Y : ℕ) → AddsSeen ns al s i Y → In s Y

-- the shapes i and j may stand over one span, and differ in shape or cut: the bit of their rules
pub record PairOver (ns t : List ℕ) (f : Frame) (i j p q : ℕ) : Type 0 where
  pub row : p ≡ i % 128
  pub column : q ≡ j % 128
  pub up : p ≤ q
  pub differ : i ≡ j → f.cut ≡ f.split → ⊥
  pub may : MayOver ns t f i j

-- i is a shape of a nonterminal of s
pub record RowOver (ns t : List ℕ) (s : ℕ) (f : Frame) (i p q : ℕ) : Type 0 where
  pub seen : In s (node_at ns i).sort
  pub holds : Upto 384 (PairOver ns t f i) p q

abbrev pub PairsBy : List ℕ → List ℕ → ℕ → ℕ → ℕ → ℕ → Type 0
PairsBy ns t s = ByFrame (λ f. Upto 384 (RowOver ns t s f))

abbrev pub PairsFound : List ℕ → List ℕ → ℕ → ℕ → ℕ → Type 0
PairsFound ns t s = Upto 16 (PairsBy ns t s)

-- the marks of each sheet whose nodes and table these are
pub record MarksFor (ns t old marks : List ℕ) : Type 0 where
  pub size : length marks ≡ length old
  pub marked : (g : Rules) → NodesMade g ns → SoundTable g t → ClosedTable g t → LowTable t
      → Marked g marks

-- the marks of the sheet; of the words of the search those past them are as they were
pub record MarksFilled (g : Rules) (ws ws' old marks : List ℕ) : Type 0 where
  pub size : length marks ≡ length old
  pub past : Past 73728 ws ws'
  pub marked : Marked g marks
