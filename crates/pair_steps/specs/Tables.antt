-- Facts as bits of a table's words, and what a step reads of it. For the contracts of inner
-- functions only.
use Rattle.std.specs.Prelude.{◌≡◌, List, ℕ, ◌+◌, ◌*◌, ◌^◌, ◌<◌, get_or}
use Rattle.sets.specs.Sets.{In}
use Rattle.grammar.specs.Trees.{Rules}
use Rattle.pairs.specs.Shapes.{rule_of_shape}
use Rattle.pairs.specs.Relations.{Order, order}
use Rattle.pairs.specs.Facts.{Fact, stand, against, sorts, behind, Might}
use Rattle.pair_offsets.specs.declared.Frame.{Frame}
use Rattle.pair_offsets.specs.Codes.{order_code, bit_of}
use Rattle.pair_steps.specs.declared.Node.{Node}
use Rattle.pair_steps.specs.declared.Words.{Words}
use Rattle.pair_steps.specs.Nodes.{shape_number}
use Rattle.pair_steps.specs.Leaving.{first_stop_of, second_stop}

-- the word of a shape's number and a nonterminal; of two nonterminals; of two nonterminals and the
-- orders of starts and stops
abbrev pub shape_word : List ℕ → ℕ → ℕ → ℕ
shape_word t i B = get_or t (64 * i + B) 0

abbrev pub sort_word : List ℕ → ℕ → ℕ → ℕ
sort_word t A B = get_or t (24576 + (64 * A + B)) 0

abbrev pub next_word : List ℕ → ℕ → ℕ → Order → Order → ℕ
next_word t A B o p = get_or t (28672 + (9 * (64 * A + B) + (3 * order_code o + order_code p))) 0

-- the table has the fact
abbrev pub InTable : List ℕ → Fact → Type 0
InTable t (stand σ x y) = Unit {0}
InTable t (against s B r) = In (shape_word t (shape_number s) B) (bit_of r)
InTable t (sorts A B r) = In (sort_word t A B) (bit_of r)
InTable t (behind A B o p z) = In (next_word t A B o p) z

-- each of its words is below 2^64
pub record LowTable (t : List ℕ) : Type 0 where
  pub low : (i : ℕ) → get_or t i 0 < 2 ^ 64

-- the fact is one that has a place of its own: of rules with places below 128 and of nonterminals
-- below 64
abbrev pub Proper : Fact → Type 0
Proper (stand σ x y) = ⊥
Proper (against s B r) = (rule_of_shape s < 128) × (B < 64)
Proper (sorts A B r) = (A < 64) × (B < 64)
Proper (behind A B o p z) = (A < 64) × (B < 64)

-- the table has only what may be
pub record SoundTable (g : Rules) (t : List ℕ) : Type 0 where
  pub sound : (a : Fact) → Proper a → InTable t a → Might g a

-- the words of two nodes, whose shapes have the numbers i and j
pub record WordsOf (t : List ℕ) (x y : Node) (i j : ℕ) (w : Words) : Type 0 where
  pub yc : w.yc ≡ shape_word t j x.first
  pub yd : w.yd ≡ shape_word t j x.second
  pub xc : w.xc ≡ shape_word t i y.first
  pub xd : w.xd ≡ shape_word t i y.second
  pub cc : w.cc ≡ sort_word t x.first y.first
  pub cd : w.cd ≡ sort_word t x.first y.second
  pub dc : w.dc ≡ sort_word t x.second y.first
  pub dd : w.dd ≡ sort_word t x.second y.second

-- the words of terminals of two nodes over a frame, whose children stop at t, v, u and s
pub record NextsBy (m : List ℕ) (f : Frame) (x y : Node) (t v u s : ℕ) (n : Words) : Type 0 where
  pub yc : n.yc ≡ next_word m y.sort x.first (order f.begin f.start) (order f.end t)
  pub yd : n.yd ≡ next_word m y.sort x.second (order f.begin f.cut) (order f.end u)
  pub xc : n.xc ≡ next_word m x.sort y.first (order f.start f.begin) (order f.stop v)
  pub xd : n.xd ≡ next_word m x.sort y.second (order f.start f.split)
      (order f.stop s)
  pub cc : n.cc ≡ next_word m x.first y.first (order f.start f.begin) (order t v)
  pub cd : n.cd ≡ next_word m x.first y.second (order f.start f.split) (order t s)
  pub dc : n.dc ≡ next_word m x.second y.first (order f.cut f.begin) (order u v)
  pub dd : n.dd ≡ next_word m x.second y.second (order f.cut f.split) (order u s)

abbrev pub NextsOf : List ℕ → Frame → Node → Node → Words → Type 0
NextsOf m f x y n =
    NextsBy m f x y (first_stop_of x.kids f.cut f.stop)
    (first_stop_of y.kids f.split f.end)
    (second_stop x.kids f.stop) (second_stop y.kids f.end) n
