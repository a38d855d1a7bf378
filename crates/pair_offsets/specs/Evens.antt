-- Offsets of four starts that can stand together, as numbers. For the contracts of inner functions
-- only.
use Rattle.std.specs.Prelude.{◌≡◌, Bool, ℕ, ◌+◌, ◌*◌, ◌/◌, ◌%◌, ◌<◌}
use Rattle.sets.specs.Says.{Says}
use Rattle.pairs.specs.Relations.{less, equal, order, Offset, beside, Tri}
use Rattle.pairs.specs.Settings.{Corner, start₁, cut₁, start₂, cut₂, Point, at}
use Rattle.pair_offsets.specs.declared.Frame.{Frame}
use Rattle.pair_offsets.specs.Codes.{offset_code, offset_of}
use Rattle.pair_offsets.specs.Frames.{rank_of}

-- the offsets l can stand together over points with the numbers f
pub record EvenOffsets (f : Point → ℕ) (l : Corner → Corner → Offset) : Type 0 where
  pub same : (c d : Corner) → order (f (at c)) (f (at d)) ≡ equal → l c d ≡ beside
  pub alike : (c d e : Corner) → order (f (at c)) (f (at d)) ≡ equal → l c e ≡ l d e
  pub turn : (c d : Corner) → l c d ≡ l d c
  pub three : (c d e : Corner) → order (f (at c)) (f (at d)) ≡ less
      → order (f (at d)) (f (at e)) ≡ less → Tri (l c d) (l d e) (l c e)

-- the six offsets of four starts as one number, below 4096
abbrev pub six_code_of : (Corner → Corner → Offset) → ℕ
six_code_of l =
    offset_code (l start₁ start₂)
    + 4 * offset_code (l start₁ cut₂)
    + 16 * offset_code (l cut₁ start₂)
    + 64 * offset_code (l cut₁ cut₂)
    + 256 * offset_code (l start₁ cut₁)
    + 1024 * offset_code (l start₂ cut₂)

abbrev pub six_of : ℕ → Corner → Corner → Offset
six_of t start₁ start₁ = beside
six_of t start₁ cut₁ = offset_of (t / 256 % 4)
six_of t start₁ start₂ = offset_of (t % 4)
six_of t start₁ cut₂ = offset_of (t / 4 % 4)
six_of t cut₁ start₁ = offset_of (t / 256 % 4)
six_of t cut₁ cut₁ = beside
six_of t cut₁ start₂ = offset_of (t / 16 % 4)
six_of t cut₁ cut₂ = offset_of (t / 64 % 4)
six_of t start₂ start₁ = offset_of (t % 4)
six_of t start₂ cut₁ = offset_of (t / 16 % 4)
six_of t start₂ start₂ = beside
six_of t start₂ cut₂ = offset_of (t / 1024 % 4)
six_of t cut₂ start₁ = offset_of (t / 4 % 4)
six_of t cut₂ cut₁ = offset_of (t / 64 % 4)
six_of t cut₂ start₂ = offset_of (t / 1024 % 4)
six_of t cut₂ cut₂ = beside

pub record EvenSix (f : Frame) (t : ℕ) : Type 0 where
  pub even : EvenOffsets (rank_of f) (six_of t)

pub record TriSays (a b c : ℕ) (r : Bool) : Type 0 where
  pub says : (x y z : Offset) → offset_code x ≡ a → offset_code y ≡ b → offset_code z ≡ c
      → Says r (Tri x y z)

-- of the tokens at p, q and r, the offset x between the first two, y between the last two and z
-- between the first and the last: where two are one
pub record Sames (p q r : ℕ) (x y z : Offset) : Type 0 where
  pub same₁ : p ≡ q → (x ≡ beside) × (y ≡ z)
  pub same₂ : q ≡ r → (y ≡ beside) × (x ≡ z)
  pub same₃ : p ≡ r → (z ≡ beside) × (x ≡ y)

-- and where they are three
pub record Tris (p q r : ℕ) (x y z : Offset) : Type 0 where
  pub pqr : p < q → q < r → Tri x y z
  pub prq : p < r → r < q → Tri z y x
  pub rpq : r < p → p < q → Tri z x y
  pub qpr : q < p → p < r → Tri x z y
  pub qrp : q < r → r < p → Tri y z x
  pub rqp : r < q → q < p → Tri y x z

pub record Trio (p q r : ℕ) (x y z : Offset) : Type 0 where
  pub sames : Sames p q r x y z
  pub tris : Tris p q r x y z

pub record SameSays (p q a b c : ℕ) (t : Bool) : Type 0 where
  pub says : (x y z : Offset) → offset_code x ≡ a → offset_code y ≡ b → offset_code z ≡ c
      → Says t (p ≡ q → (x ≡ beside) × (y ≡ z))

pub record SamesSay (p q r a b c : ℕ) (t : Bool) : Type 0 where
  pub says : (x y z : Offset) → offset_code x ≡ a → offset_code y ≡ b → offset_code z ≡ c
      → Says t (Sames p q r x y z)

pub record TrisSay (p q r a b c : ℕ) (t : Bool) : Type 0 where
  pub says : (x y z : Offset) → offset_code x ≡ a → offset_code y ≡ b → offset_code z ≡ c
      → Says t (Tris p q r x y z)

pub record TrioSays (p q r a b c : ℕ) (t : Bool) : Type 0 where
  pub says : (x y z : Offset) → offset_code x ≡ a → offset_code y ≡ b → offset_code z ≡ c
      → Says t (Trio p q r x y z)
