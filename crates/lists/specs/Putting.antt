-- For the functions that put a list: what was put so far, and what stands in the lent bytes at the
-- end.
use Rattle.std.specs.Prelude.{◌≡◌, true, false, List, [], ◌++◌, ℕ, ◌+◌, ◌≤◌, ◌<◌, length, take}
use Rattle.lists.specs.declared.Listing.{Listing}
use Rattle.std.specs.Prelude.{Option, Some, None}
use Rattle.lists.specs.Lists.{GivesList}

-- the bytes of n entries were put at the front of the lent ones; or they do not fit
pub record Puts (bytes : List ℕ) (n : ℕ) (lent lent' : List ℕ) (l : Listing) : Type 0 where
  pub long : length lent' ≡ length lent
  pub at : l.fits ≡ true → l.at ≡ length bytes
  pub within : l.fits ≡ true → l.at ≤ length lent
  pub count : l.fits ≡ true → l.count ≡ n
  pub front : l.fits ≡ true → take l.at lent' ≡ bytes
  pub large : l.fits ≡ false → length lent < length bytes

-- nothing was put
pub record Begun (l : Listing) : Type 0 where
  pub few : l.count ≤ l.at
  pub puts : (lent : List ℕ) → Puts [] 0 lent lent l

-- the bytes of n entries more were put
pub record PutMore (more : List ℕ) (n : ℕ) (old new : List ℕ) (l r : Listing) : Type 0 where
  pub few : r.count ≤ r.at
  pub puts : {bytes : List ℕ} {m : ℕ} {lent : List ℕ} → Puts bytes m lent old l
      → Puts (bytes ++ more) (m + n) lent new r

-- a list's answer while it is not a call's
abbrev pub listed : ℕ → Option ℕ
listed n = Some n

abbrev pub unfit : Option ℕ
unfit = None

-- all was put
pub record AllPut (old new : List ℕ) (l : Listing) (r : Option ℕ) : Type 0 where
  pub gives : {bytes : List ℕ} {n : ℕ} {lent : List ℕ} → Puts bytes n lent old l
      → GivesList listed unfit bytes n lent new r
