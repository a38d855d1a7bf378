-- What a shape looks like: the form of its nodes under the weakest mark that its nonterminal
-- inherits, or nothing.
use Rattle.std.specs.Prelude.{◌≡◌, Bool, true, false, Option, Some, None, ℕ, zero, suc, ◌<◌}
use Rattle.sets.specs.Sets.{In}
use Rattle.grammar.specs.declared.UnaryMark.{UnaryMark}
use Rattle.grammar.specs.declared.Clause.{Clause}
use Rattle.grammar.specs.Trees.{Rules}
use Rattle.pairs.specs.Shapes.{Form, tip, one, two, Shape, all, first, second, HasForm}
use Rattle.survey.specs.Closing.{Weakest}
use Rattle.heads.specs.declared.Kind.{Kind}
use Rattle.heads.specs.declared.Looks.{Looks}
use Rattle.heads.specs.declared.Shaped.{Shaped}

-- the kinds by number
abbrev pub kind_numbered : ℕ → Kind
kind_numbered zero = Kind.All
kind_numbered (suc zero) = Kind.First
kind_numbered (suc (suc k)) = Kind.Second

-- the three shapes of a rule: all its children have tokens, the first only, the second only
abbrev pub shape_by : Kind → ℕ → Shape
shape_by Kind.All p = all p
shape_by Kind.First p = first p
shape_by Kind.Second p = second p

-- the forms that a clause gives under the mark l; ns are the nullable nonterminals, ps the
-- productive ones
abbrev pub AllForm : ℕ → UnaryMark → Clause → Form → Type 0
AllForm ps l Clause.Empty f = ⊥
AllForm ps l (Clause.Atom a b) f = f ≡ tip a b
AllForm ps l (Clause.Unary C m) f = In ps C × (f ≡ one C l m)
AllForm ps l (Clause.Binary C D m) f = (In ps C × In ps D) × (f ≡ two C D m l)

-- of two children C has tokens, and D is empty
abbrev pub Alone : ℕ → ℕ → UnaryMark → ℕ → ℕ → Form → Type 0
Alone ns ps l C D f = (In ps C × In ns D) × (f ≡ one C l UnaryMark.None)

-- which is the first where the flag says so, and else the second
abbrev pub AloneForm : Bool → ℕ → ℕ → UnaryMark → Clause → Form → Type 0
AloneForm b ns ps l Clause.Empty f = ⊥
AloneForm b ns ps l (Clause.Atom a c) f = ⊥
AloneForm b ns ps l (Clause.Unary C m) f = ⊥
AloneForm true ns ps l (Clause.Binary C D m) f = Alone ns ps l C D f
AloneForm false ns ps l (Clause.Binary C D m) f = Alone ns ps l D C f

abbrev pub FormBy : Kind → ℕ → ℕ → UnaryMark → Clause → Form → Type 0
FormBy Kind.All ns ps l c f = AllForm ps l c f
FormBy Kind.First ns ps l c f = AloneForm true ns ps l c f
FormBy Kind.Second ns ps l c f = AloneForm false ns ps l c f

-- the form of nodes that look so
abbrev pub form_of : Looks → Form
form_of (Looks.Tip a b) = tip a b
form_of (Looks.One C l k) = one C l k
form_of (Looks.Two C D m l) = two C D m l

-- P holds of this form, or of none
abbrev pub SaysForm : Option Looks → (Form → Type 0) → Type 0
SaysForm None P = (f : Form) → P f → ⊥
SaysForm (Some z) P = P (form_of z)

-- the mark that a form inherits
abbrev pub MarkOf : Form → UnaryMark → Type 0
MarkOf (tip a b) l = Unit {0}
MarkOf (one C k m) l = k ≡ l
MarkOf (two C D m k) l = k ≡ l

-- nodes of A with the shape s look like f under the weakest mark
pub record LooksLike (g : Rules) (A : ℕ) (s : Shape) (f : Form) : Type 0 where
  pub mark : UnaryMark
  pub form : HasForm g A s f
  pub weakest : Weakest g A mark
  pub under : MarkOf f mark

-- the nonterminal of a shape and what its nodes look like; or there is no such shape
pub record ShapedAs (g : Rules) (s : Shape) (r : Shaped) : Type 0 where
  pub small : r.sort < 64
  pub says : SaysForm r.looks (LooksLike g r.sort s)
  pub absent : r.looks ≡ None → (A : ℕ) (f : Form) → HasForm g A s f → ⊥
