-- What the C function for two reports of shares answers.
use Rattle.std.specs.Prelude.{◌≡◌, ℕ, ◌/◌, ◌≤◌, ◌<◌}
use Rattle.call_shares.specs.Merge.{Leads}

-- 0 where the first of two reports is the merged one, 1 where the second is: each is the number
-- that `teplonga_share` answers, whose code of 100 or more is a refusal, its lowest number and the
-- length of its sentence
pub data MergeWord (a N n b M m r : ℕ) : Type 0 where
  one_refuses : 100 ≤ a / 4294967296 → r ≡ 0 → MergeWord a N n b M m r
  two_refuses : a / 4294967296 < 100 → 100 ≤ b / 4294967296 → r ≡ 1 → MergeWord a N n b M m r
  two_leads : a / 4294967296 < 100 → b / 4294967296 < 100 → Leads m M n N → r ≡ 1
      → MergeWord a N n b M m r
  one_stays : a / 4294967296 < 100 → b / 4294967296 < 100 → (Leads m M n N → ⊥) → r ≡ 0
      → MergeWord a N n b M m r
