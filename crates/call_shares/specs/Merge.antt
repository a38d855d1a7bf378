-- Reports of shares merged two by two: "otherwise the lowest number from the shortest reporting
-- length is the sweep's sentence".
use Rattle.std.specs.Prelude.{◌≡◌, ◌⊎◌, ℕ, ◌≤◌, ◌<◌, Result, Ok, Err}
use Rattle.sheets.specs.declared.Refusal.{Refusal}
use Rattle.call_shares.specs.Share.{ShareResult, share_number, share_sentence}

-- the call is refused
abbrev pub Refuses : {A : Type 0} → Result A Refusal → Type 0
Refuses (Ok x) = ⊥
Refuses (Err e) = Unit {0}

-- a sentence of n tokens with the number N is reported, and the other report is clear, longer, or
-- as long with a higher number M; a clear report has no tokens
pub record Leads (n N m M : ℕ) : Type 0 where
  pub reports : 1 ≤ n
  pub sooner : (m ≡ 0) ⊎ ((n < m) ⊎ ((n ≡ m) × (N < M)))

-- the report r leads s
abbrev pub Ahead : ShareResult → ShareResult → Type 0
Ahead r s =
    Leads (share_sentence r).count (share_number r) (share_sentence s).count (share_number s)

-- of two reports: the first that is a refusal, else the one that leads, else the first
pub data Merged (a b r : ShareResult) : Type 0 where
  first_refuses : Refuses a → r ≡ a → Merged a b r
  second_refuses : (Refuses a → ⊥) → Refuses b → r ≡ b → Merged a b r
  second : (Refuses a → ⊥) → (Refuses b → ⊥) → Ahead b a → r ≡ b → Merged a b r
  first : (Refuses a → ⊥) → (Refuses b → ⊥) → (Ahead b a → ⊥) → r ≡ a
      → Merged a b r
