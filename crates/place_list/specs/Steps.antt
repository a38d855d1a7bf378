-- The list while it is written, from one position to another. For the contracts of inner functions
-- only.
use Rattle.std.specs.Prelude.{◌≡◌, ℕ, ◌≤◌, length}
use mathlib.Core.List.{List, Memᴰ}
use Rattle.grammar.specs.Layout.{Word, Every}
use Rattle.grammar.specs.Trees.{Rules}
use Rattle.lists.specs.declared.Listing.{Listing}
use Rattle.lists.specs.Lists.{bytes_of}
use Rattle.lists.specs.Putting.{Puts}
use Rattle.places.specs.Places.{Place, Entry, Sooner, Ordered, entry_bytes}

abbrev pub entry : ℕ → ℕ → ℕ → Entry
entry A s l = record { nonterminal = A; start = s; len = l }

-- all places that come sooner than c were put into the lent bytes, in order, and no more; they have
-- become out
pub record ListedTo (g : Rules) (w : Word) (lent out : List ℕ) (l : Listing) (c : Entry) : Type
    0 where
  pub entries : List Entry
  pub each : Every (λ e. Place g w e.nonterminal e.start e.len) entries
  pub all : (A s len : ℕ) → Place g w A s len → Sooner (entry A s len) c
      → Memᴰ (entry A s len) entries
  pub ordered : Ordered entries
  pub before : Every (λ e. Sooner e c) entries
  pub puts : Puts (bytes_of entry_bytes entries) (length entries) lent out l

-- those from c on that come sooner than d were put besides
pub record Lists (g : Rules) (w : Word) (old new : List ℕ) (l r : Listing) (c d : Entry) : Type
    0 where
  pub few : r.count ≤ r.at
  pub long : length new ≡ length old
  pub goes : {lent : List ℕ} → ListedTo g w lent old l c → ListedTo g w lent new r d
