-- Two nodes of two trees over one sentence, without the sentence: the order of their points, the
-- offsets of their starts, and the terminals that stand there.
use Rattle.std.specs.Prelude.{◌≡◌, List, [], ◌∷◌, ℕ}
use Rattle.grammar.specs.declared.UnaryMark.{UnaryMark}
use Rattle.grammar.specs.declared.BinaryMark.{BinaryMark}
use Rattle.grammar.specs.Layout.{Every}
use Rattle.grammar.specs.Trees.{Rules, Covers}
use Rattle.pairs.specs.Survey.{CanBegin}
use Rattle.pairs.specs.Shapes.{Form, tip, one, two, HasForm, Head}
use Rattle.pairs.specs.Relations.{Order, less, equal, more, order}
use Rattle.pairs.specs.Relations.{Offset, beside, below, Relation, Tri}

-- where the first node and the second, and their second children, start; a node that has not two
-- children with tokens is cut at its start
pub data Corner : Type 0 where
  start₁ : Corner
  cut₁ : Corner
  start₂ : Corner
  cut₂ : Corner

-- and where the nodes stop, before the next token
pub data Point : Type 0 where
  at : Corner → Point
  stop₁ : Point
  stop₂ : Point

abbrev pub corners : List Corner
corners = start₁ ∷ cut₁ ∷ start₂ ∷ cut₂ ∷ []

abbrev pub points : List Point
points = at start₁ ∷ at cut₁ ∷ at start₂ ∷ at cut₂ ∷ stop₁ ∷ stop₂ ∷ []

pub record Setting : Type 0 where
  pub order : Point → Point → Order
  pub offset : Corner → Corner → Offset
  pub next : Point → ℕ

-- points with these numbers
abbrev pub setting : (Point → ℕ) → (Corner → Corner → Offset) → (Point → ℕ) → Setting
setting f l n = record { order = λ p q. order (f p) (f q); offset = l; next = n }

-- offsets and terminals that can stand together
pub record Even (σ : Setting) : Type 0 where
  pub same : (c d : Corner) → σ.order (at c) (at d) ≡ equal → σ.offset c d ≡ beside
  pub alike : (c d e : Corner) → σ.order (at c) (at d) ≡ equal → σ.offset c e ≡ σ.offset d e
  pub turn : (c d : Corner) → σ.offset c d ≡ σ.offset d c
  pub three : (c d e : Corner) → σ.order (at c) (at d) ≡ less → σ.order (at d) (at e) ≡ less
      → Tri (σ.offset c d) (σ.offset d e) (σ.offset c e)
  pub token : (p q : Point) → σ.order p q ≡ equal → σ.next p ≡ σ.next q

-- a node or one of its children that have tokens
pub record Side : Type 0 where
  pub sort : ℕ
  pub from : Corner
  pub till : Point

abbrev pub whole₁ : Head → Side
whole₁ x = record { sort = x.sort; from = start₁; till = stop₁ }

abbrev pub whole₂ : Head → Side
whole₂ x = record { sort = x.sort; from = start₂; till = stop₂ }

abbrev pub sides_of : Form → Corner → Corner → Point → List Side
sides_of (tip a b) i m j = []
sides_of (one C l k) i m j = record { sort = C; from = i; till = j } ∷ []
sides_of (two C D k l) i m j =
    record { sort = C; from = i; till = at m } ∷ record { sort = D; from = m; till = j } ∷ []

abbrev pub sides₁ : Head → List Side
sides₁ x = sides_of x.form start₁ cut₁ stop₁

abbrev pub sides₂ : Head → List Side
sides₂ x = sides_of x.form start₂ cut₂ stop₂

-- two sides share a token
pub record MeetIn (σ : Setting) (x y : Side) : Type 0 where
  pub before : σ.order (at x.from) y.till ≡ less
  pub behind : σ.order (at y.from) x.till ≡ less

abbrev pub relation_in : Setting → Side → Side → Relation
relation_in σ x y =
    record {
      starts = σ.order (at x.from) (at y.from);
      stops = σ.order x.till y.till;
      offset = σ.offset x.from y.from;
    }

-- the terminal at the stop that comes first
abbrev pub next_by : Order → ℕ → ℕ → ℕ
next_by less a b = a
next_by equal a b = a
next_by more a b = b

abbrev pub next_in : Setting → Side → Side → ℕ
next_in σ x y = next_by (σ.order x.till y.till) (σ.next x.till) (σ.next y.till)

-- p stands strictly between i and j
pub record InsideIn (σ : Setting) (i j p : Point) : Type 0 where
  pub low : σ.order i p ≡ less
  pub high : σ.order p j ≡ less

-- what a unary mark asks of a word's first token and one behind it: docs/FORMAT.md, "Layout marks"
abbrev pub AllowsOffset : UnaryMark → Offset → Type 0
AllowsOffset m beside = Unit {0}
AllowsOffset UnaryMark.None (below o) = Unit {0}
AllowsOffset UnaryMark.Offside (below o) = o ≡ more
AllowsOffset UnaryMark.Offalign (below o) = o ≡ less → ⊥
AllowsOffset UnaryMark.Single (below o) = ⊥

abbrev pub KeepsIn : UnaryMark → Setting → Corner → Point → Type 0
KeepsIn m σ i j = Every (λ c. InsideIn σ (at i) j (at c) → AllowsOffset m (σ.offset i c)) corners

-- what a binary mark asks of words that start at i and at m; indent: a later line than that of
-- every start before
abbrev pub JoinsIn : BinaryMark → Setting → Corner → Corner → Type 0
JoinsIn BinaryMark.None σ i m = Unit {0}
JoinsIn BinaryMark.Align σ i m = σ.offset i m ≡ below equal
JoinsIn BinaryMark.Indent σ i m =
    (σ.offset i m ≡ below more)
    × Every (λ c. σ.order (at c) (at m) ≡ less → σ.offset c m ≡ beside → ⊥) corners

-- a node of this form can stand from i to j, cut at m: nothing inside a leaf, the marks, and the
-- terminals that begin
abbrev pub SitsIn : Rules → Setting → Form → Corner → Corner → Point → Type 0
SitsIn g σ (tip a b) i m j =
    Every (λ p. InsideIn σ (at i) j p → ⊥) points
    × (σ.order (at i) (at m) ≡ equal)
    × Covers a b (σ.next (at i))
SitsIn g σ (one C l k) i m j =
    KeepsIn l σ i j
    × KeepsIn k σ i j
    × (σ.order (at i) (at m) ≡ equal)
    × CanBegin g C (σ.next (at i))
SitsIn g σ (two C D k l) i m j =
    (σ.order (at i) (at m) ≡ less)
    × (σ.order (at m) j ≡ less)
    × JoinsIn k σ i m
    × KeepsIn l σ i j
    × CanBegin g C (σ.next (at i))
    × CanBegin g D (σ.next (at m))

-- two nodes can stand so as far as they themselves tell, and share a token
pub record FitIn (g : Rules) (σ : Setting) (x y : Head) : Type 0 where
  pub looks₁ : HasForm g x.sort x.shape x.form
  pub looks₂ : HasForm g y.sort y.shape y.form
  pub even : Even σ
  pub nonempty₁ : σ.order (at start₁) stop₁ ≡ less
  pub nonempty₂ : σ.order (at start₂) stop₂ ≡ less
  pub sits₁ : SitsIn g σ x.form start₁ cut₁ stop₁
  pub sits₂ : SitsIn g σ y.form start₂ cut₂ stop₂
  pub meet : MeetIn σ (whole₁ x) (whole₂ y)
