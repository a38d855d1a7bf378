-- Tables that no step adds to. For the contracts of inner functions only.
use Rattle.std.specs.Prelude.{◌≡◌, ℕ}
use mathlib.Core.List.{List, Memᴰ}
use Rattle.grammar.specs.Trees.{Rules}
use Rattle.pairs.specs.Shapes.{Head}
use Rattle.pairs.specs.Relations.{equal, Offset}
use Rattle.pairs.specs.Settings.{Corner, Point, Setting, setting, MeetIn, FitIn, whole₁, whole₂}
use Rattle.pairs.specs.Settings.{relation_in}
use Rattle.pairs.specs.Facts.{against, sorts, Couple, couples, behind_in}
use Rattle.pair_offsets.specs.declared.Frame.{Frame}
use Rattle.pair_offsets.specs.Frames.{rank_of}
use Rattle.pair_steps.specs.Nodes.{Weakest}
use Rattle.pair_steps.specs.Ranks.{Ranked}
use Rattle.pair_steps.specs.Tables.{InTable}

-- two nodes fit in a setting, and the table has what they ask of their children
pub record ToldBy (g : Rules) (m : List ℕ) (σ : Setting) (x y : Head) : Type 0 where
  pub fit : FitIn g σ x y
  pub lies : (c : Couple) → Memᴰ c (couples x y) → MeetIn σ c.left c.right
      → InTable m (c.fact (relation_in σ c.left c.right))
  pub goes : (c : Couple) → Memᴰ c (couples x y) → MeetIn σ c.left c.right
      → ((relation_in σ c.left c.right).stops ≡ equal → ⊥)
      → InTable m (behind_in σ c.left c.right)

-- the table has what there is of them
pub record Kept (m : List ℕ) (σ : Setting) (x y : Head) : Type 0 where
  pub node : InTable m (against x.shape y.sort (relation_in σ (whole₁ x) (whole₂ y)))
  pub sort : InTable m (sorts x.sort y.sort (relation_in σ (whole₁ x) (whole₂ y)))
  pub next : ((relation_in σ (whole₁ x) (whole₂ y)).stops ≡ equal → ⊥)
      → InTable m (behind_in σ (whole₁ x) (whole₂ y))

-- it has what may be of two nodes with the weakest marks over points numbered by rank
pub record ClosedTable (g : Rules) (m : List ℕ) : Type 0 where
  pub closed : (f : Frame) → Ranked (rank_of f)
      → (l : Corner → Corner → Offset) (n : Point → ℕ) (x y : Head)
      → Weakest g x → Weakest g y → ToldBy g m (setting (rank_of f) l n) x y
      → Kept m (setting (rank_of f) l n) x y
