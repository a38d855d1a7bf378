-- A head as a struct of numbers. For the contracts of inner functions only.
use Rattle.std.specs.Prelude.{◌≡◌, ℕ, ◌+◌, ◌^◌, ◌≤◌, ◌<◌}
use Rattle.sets.specs.Sets.{In}
use Rattle.grammar.specs.declared.UnaryMark.{UnaryMark}
use Rattle.grammar.specs.declared.BinaryMark.{BinaryMark}
use Rattle.grammar.specs.Trees.{Rules, Covers}
use Rattle.pairs.specs.Survey.{CanBegin, Inherits}
use Rattle.pairs.specs.Strength.{rank}
use Rattle.pairs.specs.Shapes.{Form, tip, one, two, Shape, all, first, second, rule_of_shape}
use Rattle.pairs.specs.Shapes.{HasForm}
use Rattle.pairs.specs.Shapes.{Head}
use Rattle.pairs.specs.Relations.{Offset, beside, below, equal, more}
use Rattle.pairs.specs.Settings.{AllowsOffset}
use Rattle.pair_offsets.specs.Codes.{offset_code}
use Rattle.pair_steps.specs.declared.Node.{Node}

-- how many children with tokens
abbrev pub kid_count : Form → ℕ
kid_count (tip a b) = 0
kid_count (one C l k) = 1
kid_count (two C D k l) = 2

-- the children with tokens, 0 where there is none
abbrev pub first_of : Form → ℕ
first_of (tip a b) = 0
first_of (one C l k) = C
first_of (two C D k l) = C

abbrev pub second_of : Form → ℕ
second_of (tip a b) = 0
second_of (one C l k) = 0
second_of (two C D k l) = D

-- the offset of a binary mark's two first tokens, and that of a token before the second word and
-- its first
abbrev pub Joint : BinaryMark → Offset → Type 0
Joint BinaryMark.None o = Unit {0}
Joint BinaryMark.Align o = o ≡ below equal
Joint BinaryMark.Indent o = o ≡ below more

abbrev pub Parted : BinaryMark → Offset → Type 0
Parted BinaryMark.None o = Unit {0}
Parted BinaryMark.Align o = Unit {0}
Parted BinaryMark.Indent o = o ≡ beside → ⊥

-- what a node asks of its start and a start inside, of its start and its cut, and of a start before
-- its cut and the cut
abbrev pub KeepAsked : Form → Offset → Type 0
KeepAsked (tip a b) o = Unit {0}
KeepAsked (one C l k) o = AllowsOffset l o × AllowsOffset k o
KeepAsked (two C D k l) o = AllowsOffset l o

abbrev pub JoinAsked : Form → Offset → Type 0
JoinAsked (tip a b) o = Unit {0}
JoinAsked (one C l k) o = Unit {0}
JoinAsked (two C D k l) o = Joint k o

abbrev pub PartAsked : Form → Offset → Type 0
PartAsked (tip a b) o = Unit {0}
PartAsked (one C l k) o = Unit {0}
PartAsked (two C D k l) o = Parted k o

-- the terminals at its start, and at its cut if it has two children
abbrev pub BeginAsked : Rules → Form → ℕ → Type 0
BeginAsked g (tip a b) z = Covers a b z
BeginAsked g (one C l k) z = CanBegin g C z
BeginAsked g (two C D k l) z = CanBegin g C z

abbrev pub NextAsked : Rules → Form → ℕ → Type 0
NextAsked g (tip a b) z = Unit {0}
NextAsked g (one C l k) z = Unit {0}
NextAsked g (two C D k l) z = CanBegin g D z

-- the inherited mark; a leaf's does not matter
abbrev pub level_of : Form → UnaryMark
level_of (tip a b) = UnaryMark.None
level_of (one C l k) = l
level_of (two C D k l) = l

-- a set of offsets of just those with P
pub record Mask (r : ℕ) (P : Offset → Type 0) : Type 0 where
  pub has : (o : Offset) → P o → In r (offset_code o)
  pub only : (o : Offset) → In r (offset_code o) → P o

pub record SetOf (r : ℕ) (P : ℕ → Type 0) : Type 0 where
  pub has : (z : ℕ) → P z → In r z
  pub only : (z : ℕ) → In r z → P z

-- the struct describes the head
pub record NodeOf (g : Rules) (x : Head) (v : Node) : Type 0 where
  pub looks : HasForm g x.sort x.shape x.form
  pub place : rule_of_shape x.shape < 128
  pub kids : v.kids ≡ kid_count x.form
  pub sort : v.sort ≡ x.sort
  pub first : v.first ≡ first_of x.form
  pub second : v.second ≡ second_of x.form
  pub keep : Mask v.keep (KeepAsked x.form)
  pub join : Mask v.join (JoinAsked x.form)
  pub apart : Mask v.apart (PartAsked x.form)
  pub begin : SetOf v.begin (BeginAsked g x.form)
  pub next : 2 ≤ v.kids → SetOf v.next (NextAsked g x.form)
  pub small : (v.sort < 64) × (v.first < 64) × (v.second < 64)
  pub low : (v.begin < 2 ^ 64) × (v.next < 2 ^ 64)

-- and the head has the weakest mark that its nonterminal inherits
pub record Weakest (g : Rules) (x : Head) : Type 0 where
  pub least : (k : UnaryMark) → Inherits g x.sort k → rank (level_of x.form) ≤ rank k

-- a shape's number: a rule has three, by which of its children have tokens
abbrev pub shape_number : Shape → ℕ
shape_number (all p) = p
shape_number (first p) = 128 + p
shape_number (second p) = 256 + p
