-- The numbers of refusals are four runs.
use mathlib.Core.Path.{◌≡◌, refl}
use mathlib.Core.Bool.{Bool, true, false, cond, ◌&&◌}
use mathlib.Core.List.{List, [], ◌∷◌}
use Prim.Native.Nat.{ℕ, zero, suc, ◌+◌, ◌≤◌, ◌<◌}
use native.Mathlib.Decide.{ℕ_discrete}
use native.Mathlib.Omega.{arith}
use lib.Dec.{eqb}
use borrow.Author.Tests.{eqb-true}
use Rattle.sets.proofs.Basics.{clash}
use Rattle.sets.proofs.Basics.{both}
use Rattle.sheets.specs.declared.Fault.{Fault}
use Rattle.sheets.specs.Refusals.{number_of}
use Rattle.reports.specs.Rests.{OfFault}

abbrev all : List Fault
all =
    Fault.RuleNames ∷ Fault.RuleMany ∷ Fault.RuleForm ∷ Fault.RuleRange ∷ Fault.RuleLay
    ∷ Fault.RuleReversed ∷ Fault.RuleTwice ∷ Fault.NoStart
    ∷ Fault.ClauseForm ∷ Fault.ClauseDeep ∷ Fault.ClauseMany ∷ Fault.TokenNames ∷ Fault.TokenMany
    ∷ Fault.TokenForm ∷ Fault.TokenRange
    ∷ Fault.TokenWidth ∷ Fault.TokenOrder ∷ Fault.RangeEnds ∷ Fault.ManyChoices ∷ Fault.Rights
    ∷ Fault.NoRight ∷ Fault.BadBound
    ∷ Fault.ManyCandidates ∷ Fault.BadRacks ∷ Fault.BadShare ∷ Fault.FewWords ∷ Fault.FewRows ∷ []

-- is n the number of one of these?
abbrev among : ℕ → List Fault → Bool
among n [] = false
among n (f ∷ fs) = cond (eqb (number_of f) n) true (among n fs)

among_one : (n : ℕ) (fs : List Fault) → among n fs ≡ true → OfFault n
among_one n [] e = absurd (clash cc)
among_one n (f ∷ fs) e = go (eqb (number_of f) n) refl e (λ h. among_one n fs h)
  where
    go : (b : Bool) → eqb (number_of f) n ≡ b → cond b true (among n fs) ≡ true
        → (among n fs ≡ true → OfFault n) → OfFault n
    go true h e again = record { fault = f; is = eqb-true (number_of f) n h }
    go false h e again = again e

-- each number from `low` on, m of them
abbrev run : ℕ → ℕ → Bool
run low zero = true
run low (suc m) = among (low + m) all && run low m

run_one : (low m : ℕ) → run low m ≡ true → (n : ℕ) → low ≤ n → n < low + m → OfFault n
run_one low zero e n h k = absurd (omega arith)
run_one low (suc m) e n h k = let p = both (among (low + m) all) (run low m) e in
    go (ℕ_discrete n (low + m)) p (λ l. run_one low m p.1 n h l)
  where
    go : Dec (n ≡ low + m) → (among (low + m) all ≡ true) × (run low m ≡ true)
        → (n < low + m → OfFault n) → OfFault n
    go (yes q) p again = rw q (among_one (low + m) all p.0)
    go (no q) p again = again (omega arith)

pub fault_one : (n : ℕ) → 1 ≤ n → n ≤ 7 → OfFault n
fault_one n h k = run_one 1 7 refl n h (omega arith)

pub fault_two : (n : ℕ) → 11 ≤ n → n ≤ 15 → OfFault n
fault_two n h k = run_one 11 5 refl n h (omega arith)

pub fault_three : (n : ℕ) → 21 ≤ n → n ≤ 24 → OfFault n
fault_three n h k = run_one 21 4 refl n h (omega arith)

pub fault_four : (n : ℕ) → 41 ≤ n → n ≤ 51 → OfFault n
fault_four n h k = run_one 41 11 refl n h (omega arith)

-- no number outside these runs is one
module _ (P : ℕ → Type 0) (a : (n : ℕ) → 1 ≤ n → n ≤ 7 → P n) (b : (n : ℕ) → 11 ≤ n → n ≤ 15 → P n)
    (c : (n : ℕ) → 21 ≤ n → n ≤ 24 → P n) (d : (n : ℕ) → 41 ≤ n → n ≤ 51 → P n) where
  each : (f : Fault) → P (number_of f)
  each Fault.RuleNames = a 1 (omega arith) (omega arith)
  each Fault.RuleMany = a 6 (omega arith) (omega arith)
  each Fault.RuleForm = a 2 (omega arith) (omega arith)
  each Fault.RuleRange = a 3 (omega arith) (omega arith)
  each Fault.RuleLay = a 4 (omega arith) (omega arith)
  each Fault.RuleReversed = d 44 (omega arith) (omega arith)
  each Fault.RuleTwice = a 5 (omega arith) (omega arith)
  each Fault.NoStart = a 7 (omega arith) (omega arith)
  each Fault.ClauseForm = d 41 (omega arith) (omega arith)
  each Fault.ClauseDeep = d 42 (omega arith) (omega arith)
  each Fault.ClauseMany = d 43 (omega arith) (omega arith)
  each Fault.TokenNames = b 11 (omega arith) (omega arith)
  each Fault.TokenMany = b 14 (omega arith) (omega arith)
  each Fault.TokenForm = b 12 (omega arith) (omega arith)
  each Fault.TokenRange = b 13 (omega arith) (omega arith)
  each Fault.TokenWidth = d 47 (omega arith) (omega arith)
  each Fault.TokenOrder = b 15 (omega arith) (omega arith)
  each Fault.RangeEnds = d 48 (omega arith) (omega arith)
  each Fault.ManyChoices = d 49 (omega arith) (omega arith)
  each Fault.Rights = d 50 (omega arith) (omega arith)
  each Fault.NoRight = d 51 (omega arith) (omega arith)
  each Fault.BadBound = c 23 (omega arith) (omega arith)
  each Fault.ManyCandidates = c 24 (omega arith) (omega arith)
  each Fault.BadRacks = d 45 (omega arith) (omega arith)
  each Fault.BadShare = d 46 (omega arith) (omega arith)
  each Fault.FewWords = c 21 (omega arith) (omega arith)
  each Fault.FewRows = c 22 (omega arith) (omega arith)

  pub of_each : (n : ℕ) → OfFault n → P n
  of_each n o = rw (← o.is) (each o.fault)

-- a number outside the four runs
pub record Outside (n : ℕ) : Type 0 where
  pub one : 1 ≤ n → n ≤ 7 → ⊥
  pub two : 11 ≤ n → n ≤ 15 → ⊥
  pub three : 21 ≤ n → n ≤ 24 → ⊥
  pub four : 41 ≤ n → n ≤ 51 → ⊥

pub outside : (n : ℕ) → Outside n → OfFault n → ⊥
outside n x o = of_each (λ (m : ℕ). Outside m → ⊥) (λ m h k y. y.one h k) (λ m h k y. y.two h k)
    (λ m h k y. y.three h k) (λ m h k y. y.four h k) n o x

pub fault_most : (n : ℕ) → OfFault n → n ≤ 51
fault_most n o = of_each (λ (m : ℕ). m ≤ 51) (λ m h k. omega arith) (λ m h k. omega arith)
    (λ m h k. omega arith) (λ m h k. omega arith) n o
