-- The least family of pairs of nodes that may stand in two trees over one sentence.
use Rattle.std.specs.Prelude.{◌≡◌, ℕ}
use mathlib.Core.List.{List, [], ◌∷◌, Memᴰ}
use Rattle.grammar.specs.Trees.{Rules}
use Rattle.pairs.specs.Shapes.{Shape, Head}
use Rattle.pairs.specs.Relations.{Order, equal, Offset, Relation}
use Rattle.pairs.specs.Settings.{Corner, Point, Setting, setting}
use Rattle.pairs.specs.Settings.{Side, whole₁, whole₂, sides₁, sides₂}
use Rattle.pairs.specs.Settings.{MeetIn, relation_in, next_in, FitIn}

-- what may be: two nodes in a setting; a node of a shape and some node of a nonterminal, so
-- related; some nodes of two nonterminals, so related; some nodes of two nonterminals with starts
-- and stops in these orders, and the terminal at the stop that comes first
pub data Fact : Type 0 where
  stand : Setting → Head → Head → Fact
  against : Shape → ℕ → Relation → Fact
  sorts : ℕ → ℕ → Relation → Fact
  behind : ℕ → ℕ → Order → Order → ℕ → Fact

-- a side of the one node and a side of the other, and what may be of them
pub record Couple : Type 0 where
  pub left : Side
  pub right : Side
  pub fact : Relation → Fact

abbrev pub with_each : Side → (ℕ → Relation → Fact) → List Side → List Couple → List Couple
with_each x a [] rest = rest
with_each x a (k ∷ l) rest = record { left = x; right = k; fact = a k.sort } ∷ with_each x a l rest

abbrev pub crossed : List Side → List Side → List Couple
crossed [] l = []
crossed (k ∷ ks) l = with_each k (sorts k.sort) l (crossed ks l)

-- each of two nodes with each child of the other, and child with child
abbrev pub couples : Head → Head → List Couple
couples x y =
    with_each (whole₁ x) (against x.shape) (sides₂ y)
    (with_each (whole₂ y) (against y.shape) (sides₁ x) (crossed (sides₁ x) (sides₂ y)))

-- the terminal at the first stop of two sides
abbrev pub behind_in : Setting → Side → Side → Fact
behind_in σ x y =
    behind x.sort y.sort (relation_in σ x y).starts (relation_in σ x y).stops (next_in σ x y)

-- two nodes may stand so if they fit, and each couple that shares a token may be related as it is,
-- and have the terminal that stands where the one ends and the other goes on
pub data Might (g : Rules) : Fact → Type 0 where
  two_nodes : (f : Point → ℕ) (l : Corner → Corner → Offset) (n : Point → ℕ) (x y : Head)
      → FitIn g (setting f l n) x y
      → ((c : Couple) → Memᴰ c (couples x y) → MeetIn (setting f l n) c.left c.right
      → Might g (c.fact (relation_in (setting f l n) c.left c.right)))
      → ((c : Couple) → Memᴰ c (couples x y) → MeetIn (setting f l n) c.left c.right
      → ((relation_in (setting f l n) c.left c.right).stops ≡ equal → ⊥)
      → Might g (behind_in (setting f l n) c.left c.right))
      → Might g (stand (setting f l n) x y)
  of_node : {σ : Setting} {x y : Head} → Might g (stand σ x y)
      → Might g (against x.shape y.sort (relation_in σ (whole₁ x) (whole₂ y)))
  of_sorts : {σ : Setting} {x y : Head} → Might g (stand σ x y)
      → Might g (sorts x.sort y.sort (relation_in σ (whole₁ x) (whole₂ y)))
  of_next : {σ : Setting} {x y : Head} → Might g (stand σ x y)
      → Might g (behind_in σ (whole₁ x) (whole₂ y))
