-- The order of the list on entries: longest word first, then by start, then by nonterminal.
use mathlib.Core.Path.{refl}
use mathlib.Core.Logic.{inl, inr, ⊎_elim}
use Prim.Native.Nat.{ℕ}
use native.Mathlib.Omega.{arith}
use Rattle.places.specs.Places.{Entry, Sooner}

abbrev at : ℕ → ℕ → ℕ → Entry
at A s l = record { nonterminal = A; start = s; len = l }

-- a longer word comes sooner, wherever it starts
longest_first : Sooner (at 9 5 2) (at 0 0 1)
longest_first = inl (omega arith)

-- and a shorter one never does
never_shorter : Sooner (at 0 0 1) (at 9 5 2) → ⊥
never_shorter s = ⊎_elim (λ h. omega arith)
    (λ x. ⊎_elim (λ h. omega (arith, h.0)) (λ h. omega (arith, h.0)) x) s

then_start : Sooner (at 9 0 1) (at 0 1 1)
then_start = inr (inl (refl, omega arith))

then_nonterminal : Sooner (at 0 1 1) (at 9 1 1)
then_nonterminal = inr (inr (refl, refl, omega arith))
