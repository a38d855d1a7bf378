-- Frames with their lists of sixes, in words past the table. For the contracts of inner functions
-- only.
use Rattle.std.specs.Prelude.{◌≡◌, List, ℕ, ◌+◌, ◌*◌, ◌≤◌, ◌<◌, length, get_or}
use Rattle.sets.specs.Sets.{In}
use Rattle.pair_offsets.specs.declared.Frame.{Frame}
use Rattle.pair_offsets.specs.Frames.{rank_of}
use Rattle.pair_offsets.specs.Lists.{ListsEvens}
use Rattle.pair_steps.specs.Ranks.{Ranked}
use Rattle.pair_steps.specs.Suiting.{Suits}
use Rattle.pair_frames.specs.Numbering.{frame_at}

-- how many words the search needs: 65536 for the table, 1024 for entries, four words each, and the
-- others for lists of sixes
abbrev pub search_words : ℕ
search_words = 73728

-- the numbers of children that two nodes over the frame can have, a bit for each two
pub record KindsOf (f : Frame) (set : ℕ) : Type 0 where
  pub has : (kx ky : ℕ) → kx < 4 → ky < 4 → Suits f kx ky → In set (4 * kx + ky)
  pub only : (kx ky : ℕ) → kx < 4 → ky < 4 → In set (4 * kx + ky) → Suits f kx ky

-- an entry: the frame's number, the numbers of children, and where its list begins and ends
abbrev pub code_at : List ℕ → ℕ → ℕ
code_at t k = get_or t (65536 + 4 * k) 0

abbrev pub kinds_at : List ℕ → ℕ → ℕ
kinds_at t k = get_or t (65537 + 4 * k) 0

abbrev pub from_at : List ℕ → ℕ → ℕ
from_at t k = get_or t (65538 + 4 * k) 0

abbrev pub end_at : List ℕ → ℕ → ℕ
end_at t k = get_or t (65539 + 4 * k) 0

-- its list stands before top
pub record EntryAt (t : List ℕ) (top k : ℕ) : Type 0 where
  pub kinds : KindsOf (frame_at (code_at t k)) (kinds_at t k)
  pub lists : ListsEvens (frame_at (code_at t k)) t (from_at t k) (end_at t k)
  pub low : 66560 ≤ from_at t k
  pub high : end_at t k ≤ top

-- the frame with the number is ranked, and two nodes can stand over it
pub record Useful (c : ℕ) : Type 0 where
  pub ranked : Ranked (rank_of (frame_at c))
  pub kx : ℕ
  pub ky : ℕ
  pub low₁ : kx < 4
  pub low₂ : ky < 4
  pub suits : Suits (frame_at c) kx ky

-- n entries with lists before top; the useful frames with numbers from a on and below b are among
-- them
pub record EntriesOf (t : List ℕ) (n top a b : ℕ) : Type 0 where
  pub each : (k : ℕ) → k < n → EntryAt t top k
  pub all : (c : ℕ) → a ≤ c → c < b → Useful c → (k : ℕ) × (k < n) × (code_at t k ≡ c)

-- the table, and the words past what the search needs, are as they were
pub record SameTable (old new : List ℕ) : Type 0 where
  pub size : length new ≡ length old
  pub table : (i : ℕ) → i < 65536 → get_or new i 0 ≡ get_or old i 0
  pub past : (i : ℕ) → search_words ≤ i → get_or new i 0 ≡ get_or old i 0
