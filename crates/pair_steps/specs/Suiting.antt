-- Frames over which two nodes can stand. For the contracts of inner functions only.
use Rattle.std.specs.Prelude.{◌≡◌, ℕ, ◌≤◌, ◌<◌}
use Rattle.pairs.specs.Settings.{Point}
use Rattle.pair_offsets.specs.declared.Frame.{Frame}
use Rattle.pair_offsets.specs.Frames.{rank_of}

-- a node with so many children that have tokens can stand from i to j, cut at m: two are cut
-- inside, and a leaf has no point inside
pub record Placed (f : Frame) (kids i m j : ℕ) : Type 0 where
  pub two : 2 ≤ kids → (i < m) × (m < j)
  pub one : kids < 2 → i ≡ m
  pub leaf : kids ≡ 0 → (p : Point) → i < rank_of f p → rank_of f p < j → ⊥

-- nodes with so many children can stand over the frame, and share a token
pub record Suits (f : Frame) (kx ky : ℕ) : Type 0 where
  pub nonempty₁ : f.start < f.stop
  pub nonempty₂ : f.begin < f.end
  pub before : f.start < f.end
  pub behind : f.begin < f.stop
  pub placed₁ : Placed f kx f.start f.cut f.stop
  pub placed₂ : Placed f ky f.begin f.split f.end
