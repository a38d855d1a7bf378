-- How nodes are made and put into words. For the contracts of inner functions only.
use Rattle.std.specs.Prelude.{◌≡◌, Option, Some, None, List, ℕ, ◌*◌, ◌^◌, ◌≤◌, ◌<◌, length, get_or}
use Rattle.sets.specs.Sets.{In}
use Rattle.grammar.specs.declared.UnaryMark.{UnaryMark}
use Rattle.grammar.specs.Trees.{Rules, Covers}
use Rattle.pairs.specs.Survey.{Inherits}
use Rattle.pairs.specs.Shapes.{Form, Shape, HasForm}
use Rattle.survey.specs.Closing.{Weakest}
use Rattle.heads.specs.declared.Looks.{Looks}
use Rattle.heads.specs.Forms.{form_of}
use Rattle.firsts.specs.Rows.{ByNonterminal}
use Rattle.pair_steps.specs.declared.Node.{Node}
use Rattle.pair_steps.specs.Nodes.{kid_count, first_of, second_of, KeepAsked, JoinAsked, PartAsked}
use Rattle.pair_steps.specs.Nodes.{BeginAsked, NextAsked, Mask, SetOf, shape_number}
use Rattle.pair_nodes.specs.Slots.{node_at, Present, SlotOf, NodesOf}

-- numbers that the four words have room for
pub record Fits (v : Node) : Type 0 where
  pub kids : v.kids < 4
  pub sort : v.sort < 64
  pub first : v.first < 64
  pub second : v.second < 64
  pub keep : v.keep < 16
  pub join : v.join < 16
  pub apart : v.apart < 16

-- the struct describes nodes of A with this form, if ts has the first terminals of nonterminals
pub record Describes (ts : List ℕ) (A : ℕ) (f : Form) (v : Node) : Type 0 where
  pub kids : v.kids ≡ kid_count f
  pub sort : v.sort ≡ A
  pub first : v.first ≡ first_of f
  pub second : v.second ≡ second_of f
  pub keep : Mask v.keep (KeepAsked f)
  pub join : Mask v.join (JoinAsked f)
  pub apart : Mask v.apart (PartAsked f)
  pub begin : (g : Rules) → ByNonterminal g 64 ts → SetOf v.begin (BeginAsked g f)
  pub next : (g : Rules) → ByNonterminal g 64 ts → 2 ≤ v.kids → SetOf v.next (NextAsked g f)
  pub fits : Fits v
  pub low : (v.begin < 2 ^ 64) × (v.next < 2 ^ 64)

-- the words before those of i are as they were
pub record KeptTo (old new : List ℕ) (i : ℕ) : Type 0 where
  pub size : length new ≡ length old
  pub kept : (n : ℕ) → n < 4 * i → get_or new n 0 ≡ get_or old n 0

pub record Stored (old new : List ℕ) (i : ℕ) (v : Node) : Type 0 where
  pub before : KeptTo old new i
  pub there : Present new i
  pub is : node_at new i ≡ v

pub record Cleared (old new : List ℕ) (i : ℕ) : Type 0 where
  pub before : KeptTo old new i
  pub gone : Present new i → ⊥

-- the numbers of what a shape looks like are in range
abbrev pub SmallLooks : Looks → Type 0
SmallLooks (Looks.Tip a b) = b < 64
SmallLooks (Looks.One C l k) = C < 64
SmallLooks (Looks.Two C D m l) = (C < 64) × (D < 64)

abbrev pub SmallIfAny : Option Looks → Type 0
SmallIfAny None = Unit {0}
SmallIfAny (Some z) = SmallLooks z

-- at i stands what the shape looks like
pub record Shows (ts : List ℕ) (A : ℕ) (f : Form) (new : List ℕ) (i : ℕ) : Type 0 where
  pub there : Present new i
  pub describes : Describes ts A f (node_at new i)

abbrev pub SlotBy : List ℕ → ℕ → Option Looks → List ℕ → ℕ → Type 0
SlotBy ts A None new i = Present new i → ⊥
SlotBy ts A (Some z) new i = Shows ts A (form_of z) new i

pub record Slotted (ts : List ℕ) (A : ℕ) (looks : Option Looks) (old new : List ℕ) (i : ℕ) : Type
    0 where
  pub before : KeptTo old new i
  pub by : SlotBy ts A looks new i

-- at i stands the node of the shape with this number, if there is one
pub record SlotIs (g : Rules) (ns : List ℕ) (i : ℕ) : Type 0 where
  pub only : Present ns i → SlotOf g ns i
  pub all : (A : ℕ) (s : Shape) (f : Form) → HasForm g A s f → shape_number s ≡ i → Present ns i

pub record SlotPut (g : Rules) (old new : List ℕ) (i : ℕ) : Type 0 where
  pub before : KeptTo old new i
  pub slot : SlotIs g new i

-- the first n stand
pub record SlotsTo (g : Rules) (ns : List ℕ) (n : ℕ) : Type 0 where
  pub each : (i : ℕ) → i < n → SlotIs g ns i

-- A inherits a weakest mark
pub record HasWeakest (g : Rules) (A : ℕ) : Type 0 where
  pub mark : UnaryMark
  pub weakest : Weakest g A mark

-- the nodes of all shapes; and what inherits a mark inherits a weakest one
pub record NodesMade (g : Rules) (ns : List ℕ) : Type 0 where
  pub nodes : NodesOf g ns
  pub marks : (A : ℕ) (l : UnaryMark) → Inherits g A l → HasWeakest g A

-- the terminals from a on and below x are members, and no others than those from a to b
pub record RangeTo (a b x set : ℕ) : Type 0 where
  pub has : (z : ℕ) → a ≤ z → z < x → In set z
  pub only : (z : ℕ) → In set z → Covers a b z
