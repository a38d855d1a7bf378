-- How entries are made. For the contracts of inner functions only.
use Rattle.std.specs.Prelude.{◌≡◌, Bool, false, List, ◌⊎◌, ℕ, ◌+◌, ◌*◌, ◌/◌, ◌%◌, ◌≤◌, ◌<◌, length}
use Rattle.std.specs.Prelude.{get_or}
use Rattle.sets.specs.Sets.{In}
use Rattle.pair_offsets.specs.declared.Frame.{Frame}
use Rattle.pair_steps.specs.Suiting.{Suits}
use Rattle.pair_frames.specs.Numbering.{frame_at}
use Rattle.pair_entries.specs.declared.Stage.{Stage}
use Rattle.pair_entries.specs.Entries.{KindsOf, code_at, kinds_at, from_at, end_at, Useful}
use Rattle.pair_entries.specs.Entries.{EntriesOf, SameTable}

-- k is added to the set if nodes with k / 4 and k % 4 children can stand over the frame
pub record KindAdded (f : Frame) (k old new : ℕ) : Type 0 where
  pub keeps : (n : ℕ) → In old n → In new n
  pub adds : Suits f (k / 4) (k % 4) → In new k
  pub only : (n : ℕ) → In new n → In old n ⊎ ((n ≡ k) × Suits f (k / 4) (k % 4))

-- the set has those below k
pub record KindsTo (f : Frame) (k set : ℕ) : Type 0 where
  pub has : (n : ℕ) → n < k → Suits f (n / 4) (n % 4) → In set n
  pub only : (n : ℕ) → In set n → Suits f (n / 4) (n % 4)

-- of the frame with the number: none if it is of no use
pub record KindsIf (c set : ℕ) : Type 0 where
  pub absent : set ≡ 0 → Useful c → ⊥
  pub present : (set ≡ 0 → ⊥) → KindsOf (frame_at c) set

-- no frame with a number from a on and below b is of use, if r is false
pub record NoneUseful (a b : ℕ) (r : Bool) : Type 0 where
  pub absent : r ≡ false → (c : ℕ) → a ≤ c → c < b → Useful c → ⊥

-- an entry is put behind n others, and nothing else is changed
pub record EntryPut (old new : List ℕ) (n c set from end : ℕ) : Type 0 where
  pub size : length new ≡ length old
  pub before : (i : ℕ) → i < 65536 + 4 * n → get_or new i 0 ≡ get_or old i 0
  pub behind : (i : ℕ) → 65540 + 4 * n ≤ i → get_or new i 0 ≡ get_or old i 0
  pub code : code_at new n ≡ c
  pub kinds : kinds_at new n ≡ set
  pub begins : from_at new n ≡ from
  pub ends : end_at new n ≡ end

-- the useful frames with numbers from a on and below b are entered, if the list is theirs; only
-- entries are changed
pub record Entered (old new : List ℕ) (n r a b end : ℕ) : Type 0 where
  pub size : length new ≡ length old
  pub before : (i : ℕ) → i < 65536 → get_or new i 0 ≡ get_or old i 0
  pub behind : (i : ℕ) → 66560 ≤ i → get_or new i 0 ≡ get_or old i 0
  pub high : r + a ≤ n + b
  pub entries : (c top : ℕ) → c ≤ a → end ≤ top → EntriesOf old n top c a → EntriesOf new r top c b

-- the frames with the next four starts are entered
pub record StartsAdded (old new : List ℕ) (s r : Stage) : Type 0 where
  pub same : SameTable old new
  pub next : r.starts ≡ s.starts + 1
  pub few : r.entries ≤ s.entries + 36
  pub low : s.free ≤ r.free
  pub high : r.free ≤ s.free + 4096
  pub entries : (c : ℕ) → c ≤ 36 * s.starts
      → EntriesOf old s.entries s.free c (36 * s.starts)
      → EntriesOf new r.entries r.free c (36 * r.starts)

-- and so on, from some four starts on
pub record Prepared (old new : List ℕ) (p : ℕ) (r : Stage) : Type 0 where
  pub same : SameTable old new
  pub more : p < r.starts
  pub most : r.starts ≤ 1296
  pub few : r.entries ≤ 256
  pub low : 66560 ≤ r.free
  pub high : r.free ≤ 73728
  pub entries : EntriesOf new r.entries r.free (36 * p) (36 * r.starts)
