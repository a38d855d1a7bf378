-- The lefts of a terminal, rule by rule; and the terminals kept, one by one.
use mathlib.Core.Path.{◌≡◌, refl, sym, ◌∙◌, subst}
use mathlib.Core.Bool.{Bool, true, false, cond}
use mathlib.Core.Logic.{◌⊎◌, inl, inr, ⊎_elim}
use mathlib.Core.List.Memᴰ
use mathlib.Core.List.{[], ◌∷◌, ◌++◌}
use Prim.Native.Nat.{ℕ, ◌+◌, ◌≤◌, ◌<◌}
use native.Mathlib.Omega.{arith}
use native.Mathlib.Numerals.{add-one}
use native.Mathlib.Decide.{dec_lt}
use lib.ListN.{length, get_or, take}
use lib.Seq.{take-suc}
use Rattle.sets.specs.Sets.{In}
use Rattle.sets.proofs.Says.{true_not_false}
use Rattle.sets.proofs.Sets.{in_zero, insert_same, insert_keeps, insert_only}
use Rattle.grammar.specs.declared.Rule.{Rule}
use Rattle.grammar.specs.declared.Clause.{Clause}
use Rattle.grammar.specs.declared.Grammar.{Grammar}
use Rattle.grammar.specs.Trees.{Rules, Covers, HasAtom}
use Rattle.grammar.specs.Sweeps.{is_atom_of}
use Rattle.grammar.specs.Content.{rules_of, SmallRule, Formed}
use Rattle.grammar.proofs.Lists.{mem_every}
use Rattle.grammar.proofs.Atoms.{is_covers, atom_is, atom_more, atom_here, atom_cases}
use Rattle.dominance.specs.Dominance.{Replaces, add_left, Lefts, Subset, Serves, Replaced}
use Rattle.dominance.specs.Dominance.{Spares, Spared}
use Rattle.sets.specs.Insertion.{insert}

-- ---- the lefts of one rule more

pub lefts_none : (a : ℕ) → Lefts [] a 0
lefts_none a =
    record { is = λ A. (λ b. absurd (in_zero A b), λ t. absurd (Memᴰ.not-nil t.rule)) }

module _ (g : Rules) (r : Rule) (a s : ℕ) (l : Lefts g a s) where
  -- the rule adds nothing
  lefts_other : (is_atom_of a r.clause ≡ true → ⊥) → Lefts (g ++ (r ∷ [])) a s
  lefts_other n = record {
    is = λ A. (
      λ b. atom_more g r ((l.is A).0 b),
      λ m. ⊎_elim (l.is A).1 (λ q. absurd (n q.1))
          (atom_cases g r m),
    );
  }

  -- it adds its left
  lefts_atom : is_atom_of a r.clause ≡ true → Lefts (g ++ (r ∷ [])) a (insert s r.left)
  lefts_atom e = record {
    is = λ A. (
      λ b. ⊎_elim (λ c. atom_more g r ((l.is A).0 c))
          (λ c. subst (λ (x : ℕ). HasAtom (g ++ (r ∷ [])) x a) (sym c) (atom_here g r e))
          (insert_only s r.left A b),
      λ m. ⊎_elim (λ c. insert_keeps s r.left ((l.is A).1 c))
          (λ q. subst (In (insert s r.left)) q.0 (insert_same s r.left))
          (atom_cases g r m),
    );
  }

  lefts_rule : Lefts (g ++ (r ∷ [])) a (add_left s r a)
  lefts_rule = go (is_atom_of a r.clause) refl
    where
      go : (x : Bool) → is_atom_of a r.clause ≡ x
          → Lefts (g ++ (r ∷ [])) a (cond x (insert s r.left) s)
      go true e = lefts_atom e
      go false e = lefts_other (λ q. true_not_false (sym q ∙ e))

-- the rule at i is taken in
pub lefts_step : (g : Rules) (d : Rule) (i a s u : ℕ) → i < length g → Lefts (take i g) a s
    → u ≡ add_left s (get_or g i d) a → Lefts (take (i + 1) g) a u
lefts_step g d i a s u h l e =
    rw (add-one i, take-suc g i d, e) (lefts_rule (take i g) (get_or g i d) a s l)

-- an A rule that covers a adds its left, one that does not nothing
pub with_same : (s a b e : ℕ) (r : Rule) → r.clause ≡ Clause.Atom b e → b ≤ a → a ≤ e
    → add_left s r a ≡ insert s r.left
with_same s a b e r k l h = rw (atom_is a b e r.clause k (record { low = l; high = h }))

pub with_other : (s a b e : ℕ) (r : Rule) → r.clause ≡ Clause.Atom b e → (Covers b e a → ⊥)
    → add_left s r a ≡ s
with_other s a b e r k n = go (is_atom_of a r.clause) refl
  where
    go : (x : Bool) → is_atom_of a r.clause ≡ x → cond x (insert s r.left) s ≡ s
    go true q = absurd (n (is_covers b e a (subst (λ (c : Clause). is_atom_of a c ≡ true) k q)))
    go false q = refl

-- ---- who replaces whom

-- a left is a number below 64
pub left_small : (g : Grammar) → Formed g → {A a : ℕ} → HasAtom (rules_of g) A a → A < 64
left_small g f m = (mem_every SmallRule (rules_of g) f.small m.rule).left

pub serves_of : (g : Rules) (kept s t y : ℕ) → In kept y → Lefts g y t → Subset s t
    → Serves g kept s y
serves_of g kept s t y k l p = record { held = k; lefts = λ A h m. (l.is A).0 (p.each A h m) }

pub replaced_of : (g : Grammar) → Formed g → (kept s x y : ℕ) → y < x → Lefts (rules_of g) x s
    → Serves (rules_of g) kept s y → Replaced (rules_of g) kept x
replaced_of g f kept s x y h l v =
    record {
      by = y;
      less = h;
      held = v.held;
      replaces =
          record { lefts = λ A m. v.lefts A (left_small g f m) ((l.is A).1 m) };
    }

-- ---- the terminals kept

module _ (g : Rules) (s x kept : ℕ) (h : Spares g s x kept) where
  -- below x + 1 a terminal is below x, or it is x
  at_most : (z : ℕ) → z < x + 1 → (z < x) ⊎ (z ≡ x)
  at_most z b = go (dec_lt z x)
    where
      go : Dec (z < x) → (z < x) ⊎ (z ≡ x)
      go (yes l) = inl l
      go (no n) = inr (omega arith)

  pub spares_skip : (In s x → ⊥) → Spares g s (x + 1) kept
  spares_skip n = record {
    part = h.part;
    each = λ z b m. ⊎_elim (λ l. h.each z l m)
        (λ e. absurd (n (subst (In s) e m))) (at_most z b);
  }

  pub spares_drop : Replaced g kept x → Spares g s (x + 1) kept
  spares_drop r = record {
    part = h.part;
    each = λ z b m. ⊎_elim (λ l. h.each z l m)
        (λ e. (
          r.by,
          r.held,
          omega (arith, r.less),
          subst (Replaces g r.by) (sym e)
              r.replaces,
        )) (at_most z b);
  }

  pub spares_keep : (u : ℕ) → In s x → u ≡ insert kept x → Spares g s (x + 1) u
  spares_keep u i e = subst (Spares g s (x + 1)) (sym e) (record {
    part = λ z m. ⊎_elim (h.part z) (λ q. subst (In s) (sym q) i) (insert_only kept x z m);
    each = λ z b m. ⊎_elim (λ l. let q = h.each z l m in
        (q.0, insert_keeps kept x q.1, q.2, q.3))
        (λ q. (
          x,
          insert_same kept x,
          omega arith,
          subst (Replaces g x) (sym q)
              (record { lefts = λ A a. a }),
        )) (at_most z b);
  })

pub spares_none : (g : Rules) (s : ℕ) → Spares g s 0 0
spares_none g s =
    record { part = λ x m. absurd (in_zero x m); each = λ x l m. absurd (omega arith) }

pub spared_of : (g : Rules) (s kept : ℕ) → Spares g s 64 kept → Spared g s kept
spared_of g s kept h = record {
  part = λ x m. (m.0, h.part x m.1);
  each = λ x m. let q = h.each x m.0 m.1 in
      (q.0, (omega (arith, q.2, m.0), q.1), q.2, q.3);
}
