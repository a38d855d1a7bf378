-- The list while it is written: doubts by number, in their order.
use Rattle.std.specs.Prelude.{◌≡◌, Bool, true, false, ℕ, ◌+◌, ◌*◌, ◌≤◌, ◌<◌, length}
use mathlib.Core.List.{List, [], ◌∷◌, Memᴰ}
use Rattle.grammar.specs.Layout.{Every}
use Rattle.grammar.specs.Trees.{Rules}
use Rattle.lists.specs.declared.Listing.{Listing}
use Rattle.lists.specs.Lists.{bytes_of}
use Rattle.lists.specs.Putting.{Puts, PutMore}
use Rattle.pairs.specs.Doubts.{Why, Doubt, Doubted, why_code, DoubtsInOrder}
use Rattle.doubt_list.specs.Entries.{doubt_bytes}

abbrev pub doubt : ℕ → ℕ → ℕ → Why → Doubt
doubt A p q y = record { nonterminal = A; first = p; second = q; why = y }

-- a doubt's number: doubts of few rules stand in the order of their numbers
abbrev pub at : ℕ → ℕ → ℕ → ℕ → ℕ
at A p q y = 49152 * A + 384 * p + 3 * q + y

abbrev pub doubt_number : Doubt → ℕ
doubt_number d = at d.nonterminal d.first d.second (why_code d.why)

-- all doubts of numbers below n were put into the lent bytes, in order, and no more; they have
-- become out
pub record ListedTo (g : Rules) (lent out : List ℕ) (l : Listing) (n : ℕ) : Type 0 where
  pub entries : List Doubt
  pub each : Every (Doubted g) entries
  pub all : (d : Doubt) → Doubted g d → doubt_number d < n → Memᴰ d entries
  pub ordered : DoubtsInOrder entries
  pub before : Every (λ d. doubt_number d < n) entries
  pub puts : Puts (bytes_of doubt_bytes entries) (length entries) lent out l

-- those of numbers from m on and below n were put besides
pub record Lists (g : Rules) (old new : List ℕ) (l r : Listing) (m n : ℕ) : Type 0 where
  pub few : r.count ≤ r.at
  pub long : length new ≡ length old
  pub goes : {lent : List ℕ} → ListedTo g lent old l m → ListedTo g lent new r n

-- the bytes of an entry
abbrev pub four : ℕ → ℕ → ℕ → ℕ → List ℕ
four A p q y = A ∷ (p + 1) ∷ (q + 1) ∷ y ∷ []

-- an entry's bytes were put, where a test said yes
pub record PutIf (yes : Bool) (bytes : List ℕ) (old new : List ℕ) (l r : Listing) : Type 0 where
  pub put : yes ≡ true → PutMore bytes 1 old new l r × (length new ≡ length old)
  pub same : yes ≡ false → (new ≡ old) × (r ≡ l)
