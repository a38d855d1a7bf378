-- Nodes of trees over a sentence: where they start, are cut and stop, and how two of them lie.
use mathlib.Core.Path.{◌≡◌}
use mathlib.Core.List.{List, [], ◌∷◌}
use mathlib.Core.Bool.{Bool, true, false}
use Prim.Native.Nat.{ℕ, ◌≤◌, ◌<◌}
use lib.Dec.{eqb}
use lib.ListN.{length}
use lib.Seq.{slice}
use Rattle.grammar.specs.declared.Token.{Token}
use Rattle.grammar.specs.Layout.{Word, line, col}
use Rattle.grammar.specs.Layout as Mark
use Rattle.grammar.specs.Trees.{Rules, Covers}
use Rattle.marks.specs.Half.{token_at}
use Rattle.pairs.specs.Survey.{CanBegin}
use Rattle.pairs.specs.Shapes.{Form, tip, one, two, Shape, HasForm, Head}
use Rattle.pairs.specs.Relations.{Order, less, equal, more, order, Offset, beside, below}
use Rattle.pairs.specs.Relations.{Relation}
use Rattle.pairs.specs.Settings.{Corner, start₁, cut₁, start₂, cut₂, Point, at, stop₁, stop₂}
use Rattle.pairs.specs.Settings.{Setting, setting, Side, next_by}

-- the offset of t, which is behind s, against s
abbrev offset_by : Bool → Order → Offset
offset_by true o = beside
offset_by false o = below o

unfoldable pub offset : Token → Token → Offset
offset s t = offset_by (eqb (line s) (line t)) (order (col t) (col s))

-- of the tokens at x and at y, whichever comes first; of a token and itself: on its line
abbrev offset_between : Word → ℕ → ℕ → Order → Offset
offset_between w x y less = offset (token_at w x) (token_at w y)
offset_between w x y equal = beside
offset_between w x y more = offset (token_at w y) (token_at w x)

unfoldable pub offset_at : Word → ℕ → ℕ → Offset
offset_at w x y = offset_between w x y (order x y)

abbrev pub terminal_at_of : Word → ℕ → ℕ
terminal_at_of w i = (token_at w i).terminal

-- a nonterminal over the tokens from start on, up to and not including stop
pub record Piece : Type 0 where
  pub sort : ℕ
  pub start : ℕ
  pub stop : ℕ

pub record Meet (x y : Piece) : Type 0 where
  pub before : x.start < y.stop
  pub behind : y.start < x.stop

abbrev pub relation : Word → Piece → Piece → Relation
relation w x y =
    record {
      starts = order x.start y.start;
      stops = order x.stop y.stop;
      offset = offset_at w x.start y.start;
    }

abbrev pub next_at : Word → Piece → Piece → ℕ
next_at w x y = next_by (order x.stop y.stop) (terminal_at_of w x.stop) (terminal_at_of w y.stop)

-- a node; cut is where a second child that has tokens starts, and elsewhere the start
pub record Spot : Type 0 where
  pub whole : Piece
  pub shape : Shape
  pub form : Form
  pub cut : ℕ

abbrev pub head_of : Spot → Head
head_of x = record { sort = x.whole.sort; shape = x.shape; form = x.form }

-- the children that have tokens
abbrev pub kids_of_of : Form → ℕ → ℕ → ℕ → List Piece
kids_of_of (tip a b) i m j = []
kids_of_of (one C l k) i m j = record { sort = C; start = i; stop = j } ∷ []
kids_of_of (two C D k l) i m j =
    record { sort = C; start = i; stop = m } ∷ record { sort = D; start = m; stop = j } ∷ []

abbrev pub kids : Spot → List Piece
kids x = kids_of_of x.form x.whole.start x.cut x.whole.stop

-- a node of this form stands over the tokens from i up to j, cut at m: its marks hold
abbrev pub Sits : Rules → Word → Form → ℕ → ℕ → ℕ → Type 0
Sits g w (tip a b) i m j =
    (t : Token) × (slice i j w ≡ t ∷ []) × (m ≡ i) × Covers a b (terminal_at_of w i)
Sits g w (one C l k) i m j =
    Mark.Unary l (slice i j w) × Mark.Unary k (slice i j w) × (m ≡ i)
    × CanBegin g C (terminal_at_of w i)
Sits g w (two C D k l) i m j =
    (i < m)
    × (m < j)
    × Mark.Binary k (slice i m w) (slice m j w)
    × Mark.Unary l (slice i j w)
    × CanBegin g C (terminal_at_of w i)
    × CanBegin g D (terminal_at_of w m)

pub record Fits (g : Rules) (w : Word) (x : Spot) : Type 0 where
  pub looks : HasForm g x.whole.sort x.shape x.form
  pub nonempty : x.whole.start < x.whole.stop
  pub inside : x.whole.stop ≤ length w
  pub sits : Sits g w x.form x.whole.start x.cut x.whole.stop

-- the setting of two nodes
abbrev pub corner : Spot → Spot → Corner → ℕ
corner x y start₁ = x.whole.start
corner x y cut₁ = x.cut
corner x y start₂ = y.whole.start
corner x y cut₂ = y.cut

abbrev pub point : Spot → Spot → Point → ℕ
point x y (at c) = corner x y c
point x y stop₁ = x.whole.stop
point x y stop₂ = y.whole.stop

abbrev pub offsets : Word → Spot → Spot → Corner → Corner → Offset
offsets w x y c d = offset_at w (corner x y c) (corner x y d)

abbrev pub terminals : Word → Spot → Spot → Point → ℕ
terminals w x y p = terminal_at_of w (point x y p)

abbrev pub setting_of : Word → Spot → Spot → Setting
setting_of w x y = setting (point x y) (offsets w x y) (terminals w x y)

abbrev pub piece_of : Spot → Spot → Side → Piece
piece_of x y k = record { sort = k.sort; start = corner x y k.from; stop = point x y k.till }
