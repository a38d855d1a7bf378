-- Lists of sixes of offsets, and what is left of them by masks. For the contracts of inner
-- functions only.
use Rattle.std.specs.Prelude.{◌≡◌, List, ℕ, ◌+◌, ◌/◌, ◌%◌, ◌≤◌, ◌<◌, length, get_or}
use Rattle.sets.specs.Sets.{In}
use Rattle.pair_offsets.specs.declared.Frame.{Frame}
use Rattle.pair_offsets.specs.declared.Masks.{Masks}
use Rattle.pair_offsets.specs.Evens.{EvenSix}

-- the six of offsets is among those left
pub record Held (m : Masks) (t : ℕ) : Type 0 where
  pub ac : In m.ac (t % 4)
  pub an : In m.an (t / 4 % 4)
  pub mc : In m.mc (t / 16 % 4)
  pub mn : In m.mn (t / 64 % 4)
  pub am : In m.am (t / 256 % 4)
  pub cn : In m.cn (t / 1024 % 4)

pub record OffsetAdded (m : Masks) (t r s : ℕ) : Type 0 where
  pub keeps : (k : ℕ) → In r k → In s k
  pub adds : Held m t → In s (t % 4)
  pub only : (k : ℕ) → In s k → (In r k → ⊥) → Held m t × (t % 4 ≡ k)

-- a listed six that is left, with k for the offset of the two starts
pub record LeftWith (list : List ℕ) (from end : ℕ) (m : Masks) (k : ℕ) : Type 0 where
  pub place : ℕ
  pub low : from ≤ place
  pub high : place < end
  pub held : Held m (get_or list place 0)
  pub starts : get_or list place 0 % 4 ≡ k

-- r has the offsets of the two starts in the listed sixes that are left
pub record OffsetsLeft (list : List ℕ) (from end : ℕ) (m : Masks) (r : ℕ) : Type 0 where
  pub all : (k : ℕ) → LeftWith list from end m k → In r k
  pub only : (k : ℕ) → In r k → LeftWith list from end m k

-- t is put at n where it can stand, and nothing else is changed
pub record Pushed (f : Frame) (old new : List ℕ) (n t r : ℕ) : Type 0 where
  pub size : length new ≡ length old
  pub low : n ≤ r
  pub high : r ≤ n + 1
  pub kept : (i : ℕ) → (i ≡ n → ⊥) → get_or new i 0 ≡ get_or old i 0
  pub put : EvenSix f t → (n < r) × (get_or new n 0 ≡ t)
  pub only : n < r → EvenSix f t × (get_or new n 0 ≡ t)

-- from place `from` up to `end` stand the sixes below t that can stand over the frame; of the
-- others, at most t places are changed
pub record Listing (f : Frame) (old new : List ℕ) (from t end : ℕ) : Type 0 where
  pub size : length new ≡ length old
  pub low : from ≤ end
  pub high : end ≤ from + t
  pub kept : (i : ℕ) → i < from → get_or new i 0 ≡ get_or old i 0
  pub beyond : (i : ℕ) → from + t ≤ i → get_or new i 0 ≡ get_or old i 0
  pub all : (s : ℕ) → s < t → EvenSix f s
      → (i : ℕ) × (from ≤ i) × (i < end) × (get_or new i 0 ≡ s)
  pub only : (i : ℕ) → from ≤ i → i < end → EvenSix f (get_or new i 0)

-- from place `from` up to `end` stand all the sixes that can stand over the frame
pub record ListsEvens (f : Frame) (list : List ℕ) (from end : ℕ) : Type 0 where
  pub low : from ≤ end
  pub all : (s : ℕ) → s < 4096 → EvenSix f s
      → (i : ℕ) × (from ≤ i) × (i < end) × (get_or list i 0 ≡ s)
  pub only : (i : ℕ) → from ≤ i → i < end → EvenSix f (get_or list i 0)
