-- The ones of the set of a sheet's terminals are T.
use mathlib.Core.Path.{◌≡◌, refl, sym, ◌∙◌, ap, ap₂}
use mathlib.Core.Bool.{Bool, true, false, cond, ◌||◌, or-true}
use mathlib.Core.Logic.{⊎_elim}
use mathlib.Core.List.Memᴰ
use mathlib.Core.List.{[], ◌∷◌}
use Prim.Native.Nat.{ℕ, zero, suc, ◌+◌, ◌/◌, ◌%◌, ◌^◌, ◌<◌}
use native.Mathlib.Omega.{arith}
use native.Mathlib.Decide.{ℕ_discrete}
use native.Mathlib.Nat.{pow-zero, mod-one, mod-lt, mod-eq_of_lt}
use lib.Pow.{pow_pos, mod-pow-add}
use lib.Count.{ones, ones_in, ones_cat, ones-le}
use Rattle.sets.proofs.Says.{true_not_false}
use Rattle.grammar.specs.declared.Rule.{Rule}
use Rattle.grammar.specs.declared.Clause.TheVariants as Clause
use Rattle.grammar.specs.Trees.{Rules}
use Rattle.grammar.specs.Candidates.{Terminal}
use Rattle.grammar.specs.Sweeps.{is_atom_of, stands, terminals_below, terminal_count}
use Rattle.grammar.proofs.Atoms.{atom_is, has_atom, atom_over}
use Rattle.candidates.specs.Terminals.{Terminals, CountsOnes}

-- ---- `stands` says what `Terminal` says

pub stands_terminal : (g : Rules) (a : ℕ) → stands g a ≡ true → Terminal g a
stands_terminal [] a e = absurd (true_not_false (sym e))
stands_terminal (r ∷ g) a e = go (is_atom_of a r.clause) refl e (stands_terminal g a)
  where
    go : (b : Bool) → is_atom_of a r.clause ≡ b → (b || stands g a) ≡ true
        → (stands g a ≡ true → Terminal g a) → Terminal (r ∷ g) a
    go true p q ih = (r.left, has_atom r a (Memᴰ.head refl) p)
    go false p q ih = let t = ih q in (t.0, atom_over (λ s m. Memᴰ.tail m) t.1)

pub terminal_stands : (g : Rules) (a : ℕ) → Terminal g a → stands g a ≡ true
terminal_stands [] a t = absurd (Memᴰ.not-nil t.1.rule)
terminal_stands (r ∷ g) a t =
    let h = t.1 in
    ⊎_elim here (λ m. rw (terminal_stands g a
    (t.0, record { low = h.low; high = h.high; rule = m; covers = h.covers }))
    (or-true (is_atom_of a r.clause))) (Memᴰ.cases_cons h.rule)
  where
    here : record { left = t.0; clause = Clause.Atom t.1.low t.1.high } ≡ r
        → (is_atom_of a r.clause || stands g a) ≡ true
    here e = rw (atom_is a t.1.low t.1.high r.clause
        (ap (λ (q : Rule). q.clause) (sym e)) t.1.covers)

-- ---- digit by digit

module _ (g : Rules) (s : ℕ) (t : Terminals g s) where
  digit : (n : ℕ) → s / 2 ^ n % 2 ≡ cond (stands g n) 1 0
  digit n = go (stands g n) refl
    where
      none : stands g n ≡ false → Dec (s / 2 ^ n % 2 ≡ 1) → s / 2 ^ n % 2 ≡ 0
      none e (yes d) =
          absurd (true_not_false (sym (terminal_stands g n ((t n).0 (record { digit = d }))) ∙ e))
      none e (no d) = low (s / 2 ^ n % 2) (mod-lt (s / 2 ^ n) (omega arith)) d
        where
          low : (x : ℕ) → x < 2 → (x ≡ 1 → ⊥) → x ≡ 0
          low zero h k = refl
          low (suc zero) h k = absurd (k refl)
          low (suc (suc x)) h k = absurd (omega arith)

      go : (b : Bool) → stands g n ≡ b → s / 2 ^ n % 2 ≡ cond b 1 0
      go true e = ((t n).1 (stands_terminal g n e)).digit
      go false e = none e (ℕ_discrete (s / 2 ^ n % 2) 1)

  ones_digit : (b : ℕ) → b < 2 → ones b ≡ b
  unfolding ones ones_in
  ones_digit zero h = refl
  ones_digit (suc zero) h = refl
  ones_digit (suc (suc b)) h = absurd (omega arith)

  pub ones_below : (n : ℕ) → ones (s % 2 ^ n) ≡ terminals_below g n
  ones_below zero = rw (pow-zero 2, mod-one s) (ones_digit 0 (omega arith))
  ones_below (suc n) =
      ap (λ (z : ℕ). ones (s % 2 ^ z)) (let e : suc n ≡ 1 + n = omega arith in e)
      ∙ ap ones (mod-pow-add s 1 n)
      ∙ ones_cat n (s / 2 ^ n % 2) (s % 2 ^ n) (mod-lt s (pow_pos n))
      ∙ ap₂ ◌+◌ (ones_digit (s / 2 ^ n % 2) (mod-lt (s / 2 ^ n) (omega arith)) ∙ digit n)
      (ones_below n)

  ones_count : s < 2 ^ 64 → ones s ≡ terminal_count g
  ones_count h = ap ones (sym (mod-eq_of_lt h)) ∙ ones_below 64

pub counted : (s : ℕ) → s < 2 ^ 64 → CountsOnes s (ones s)
counted s h = record { ones = refl; few = ones-le 64 s h; terminals = λ g t. ones_count g s t h }
