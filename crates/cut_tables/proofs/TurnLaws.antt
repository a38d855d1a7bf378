-- Members put into words turn by turn: a number at a time, or a member of a set at a time.
use mathlib.Core.Path.{◌≡◌, refl, subst}
use mathlib.Core.Logic.{◌⊎◌, inl, inr, ⊎_elim}
use mathlib.Core.List.{List}
use Prim.Native.Nat.{ℕ, ◌+◌, ◌-◌, ◌≤◌, ◌<◌}
use native.Mathlib.Omega.{arith}
use native.Mathlib.Decide.{ℕ_discrete, dec_lt}
use lib.Bits.{bit_and}
use Rattle.sets.specs.Sets.{In}
use Rattle.sets.proofs.Sets.{in_zero, in_dec}
use Rattle.cuts.specs.Joining.{Joins}
use Rattle.cuts.specs.Puts.{Least}
use Rattle.cuts.proofs.JoinLaws.{joins_none, joins_then, joins_as}
use Rattle.cuts.proofs.Bits.{in_word}

-- ---- members put in turn by turn

-- one of the first m turns puts it in
abbrev pub Under : (ℕ → ℕ → ℕ → Type 0) → ℕ → ℕ → ℕ → Type 0
Under P m q B = (l : ℕ) × (l < m) × P l q B

pub joins_zero : (P : ℕ → ℕ → ℕ → Type 0) (rs : List ℕ) → Joins (Under P 0) rs rs
joins_zero P rs = joins_as (λ q B x. absurd x) (λ q B x. omega (arith, x.1)) (joins_none rs)

pub joins_next : (P : ℕ → ℕ → ℕ → Type 0) (m : ℕ) {rs rs₁ rs₂ : List ℕ} → Joins (Under P m) rs rs₁
    → Joins (P m) rs₁ rs₂ → Joins (Under P (m + 1)) rs rs₂
joins_next P m a b =
    joins_as (λ q B x. ⊎_elim (λ y. (y.0, omega (arith, y.1), y.2)) (λ y. (m, omega arith, y)) x)
    (λ q B x. back q B x (ℕ_discrete x.0 m)) (joins_then a b)
  where
    back : (q B : ℕ) → (x : Under P (m + 1) q B) → Dec (x.0 ≡ m) → Under P m q B ⊎ P m q B
    back q B x (yes e) = inr (subst (λ (l : ℕ). P l q B) e x.2)
    back q B x (no e) = inl (x.0, omega (arith, x.1, e), x.2)

pub joins_all : (P : ℕ → ℕ → ℕ → Type 0) (m : ℕ) {rs rs' : List ℕ} → Joins (Under P m) rs rs'
    → ((l q B : ℕ) → P l q B → l < m) → Joins (λ q B. (l : ℕ) × P l q B) rs rs'
joins_all P m a f = joins_as (λ q B x. (x.0, x.2)) (λ q B x. (x.0, f x.0 q B x.1, x.1)) a

-- turns that put in nothing are passed over
pub joins_jump : (P : ℕ → ℕ → ℕ → Type 0) (m o : ℕ) {rs rs' : List ℕ} → m ≤ o
    → ((l q B : ℕ) → m ≤ l → l < o → P l q B → ⊥) → Joins (Under P m) rs rs'
    → Joins (Under P o) rs rs'
joins_jump P m o h f a = joins_as (λ q B x. (x.0, omega (arith, x.1), x.2))
    (λ q B x. (x.0, back q B x (dec_lt x.0 m), x.2)) a
  where
    back : (q B : ℕ) → (x : Under P o q B) → Dec (x.0 < m) → x.0 < m
    back q B x (yes e) = e
    back q B x (no e) = absurd (f x.0 q B (omega arith) x.1 x.2)

-- ---- a member of a set at a time, the least first

-- the members of the set that are not left were put in
abbrev pub Gone : (ℕ → ℕ → ℕ → Type 0) → ℕ → ℕ → ℕ → ℕ → Type 0
Gone P set rest q B = (k : ℕ) × In set k × (In rest k → ⊥) × P k q B

pub joins_whole : (P : ℕ → ℕ → ℕ → Type 0) (set : ℕ) (rs : List ℕ) → Joins (Gone P set set) rs rs
joins_whole P set rs =
    joins_as (λ q B x. absurd x) (λ q B x. x.2 x.1) (joins_none rs)

pub joins_least : (P : ℕ → ℕ → ℕ → Type 0) (set rest r : ℕ) {rs rs₁ rs₂ : List ℕ} → Least rest r
    → ((k : ℕ) → In rest k → In set k) → Joins (Gone P set rest) rs rs₁ → Joins (P r) rs₁ rs₂
    → Joins (Gone P set (bit_and rest (rest - 1))) rs rs₂
joins_least P set rest r l sub a b =
    joins_as
    (λ q B x. ⊎_elim (λ y. (y.0, y.1, (λ h. y.2 ((l.others y.0).0 h).0), y.3))
    (λ y. (r, sub r l.member, (λ h. ((l.others r).0 h).1 refl), y)) x)
    (λ q B x. back q B x (in_dec rest x.0)) (joins_then a b)
  where
    back : (q B : ℕ) → (x : Gone P set (bit_and rest (rest - 1)) q B) → Dec (In rest x.0)
        → Gone P set rest q B ⊎ P r q B
    back q B x (no h) = inl (x.0, x.1, h, x.3)
    back q B x (yes h) = here (ℕ_discrete x.0 r)
      where
        here : Dec (x.0 ≡ r) → Gone P set rest q B ⊎ P r q B
        here (yes e) = inr (subst (λ (k : ℕ). P k q B) e x.3)
        here (no e) = absurd (x.2 ((l.others x.0).1 (h, e)))

pub joins_gone : (P : ℕ → ℕ → ℕ → Type 0) (set rest : ℕ) {rs rs' : List ℕ} → rest ≡ 0
    → Joins (Gone P set rest) rs rs' → Joins (λ q B. (k : ℕ) × In set k × P k q B) rs rs'
joins_gone P set rest e a =
    joins_as (λ q B x. (x.0, x.1, x.3))
    (λ q B x. (x.0, x.1, (λ h. in_zero x.0 (in_word e h)), x.2)) a
