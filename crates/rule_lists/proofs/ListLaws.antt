-- Lists of places while they are written.
use mathlib.Core.Path.{◌≡◌, sym, ap, ◌∙◌, subst}
use mathlib.Core.List.{List}
use Prim.Native.Nat.{ℕ, ◌+◌, ◌≤◌, ◌<◌}
use native.Mathlib.Omega.{arith}
use native.Mathlib.Decide.{ℕ_discrete}
use lib.ListN.{length, get_or, set}
use lib.Seq.{get_or-set_same, get_or-set_other}
use Rattle.grammar.specs.Trees.{Rules}
use Rattle.tables.specs.Tables.{rule}
use Rattle.rule_lists.specs.RuleLists.{FirstOf, Firsts, Nexts}

-- none of the rules from `from` to below i is one of A
pub record NoneTo (g : Rules) (A from i : ℕ) : Type 0 where
  pub low : from ≤ i
  pub absent : (j : ℕ) → from ≤ j → j < i → (rule g j).left ≡ A → ⊥

pub none_first : (g : Rules) (A from : ℕ) → NoneTo g A from from
none_first g A from = record { low = omega arith; absent = λ j a b e. omega arith }

pub none_more : {g : Rules} {A from i : ℕ} → NoneTo g A from i → ((rule g i).left ≡ A → ⊥)
    → NoneTo g A from (i + 1)
none_more {g} {A} {from} {i} x y =
    record { low = omega (arith, x.low); absent = λ j a b e. go j a b e (ℕ_discrete j i) }
  where
    go : (j : ℕ) → from ≤ j → j < i + 1 → (rule g j).left ≡ A → Dec (j ≡ i) → ⊥
    go j a b e (yes z) = y (ap (λ (q : ℕ). (rule g q).left) (sym z) ∙ e)
    go j a b e (no z) = x.absent j a (omega arith) e

pub none_found : {g : Rules} {A from i : ℕ} → NoneTo g A from i → (rule g i).left ≡ A
    → FirstOf g A from i
none_found x e = record { low = x.low; skips = λ j a b c. x.absent j a b; is = λ h. e }

pub none_end : {g : Rules} {A from i : ℕ} (r : ℕ) → NoneTo g A from i → length g ≤ i → i ≤ r
    → FirstOf g A from r
none_end r x h k = record {
  low = omega (arith, x.low);
  skips = λ j a b c. x.absent j a
      (omega arith);
  is = λ l. absurd (omega arith);
}

module _ {g : Rules} {m : ℕ} {l : List ℕ} where
  pub firsts_more : (r : ℕ) → m < length l → Firsts g m l → FirstOf g m 0 r
      → Firsts g (m + 1) (set l m r)
  firsts_more r h x y = record { first = λ A k. go A k (ℕ_discrete A m) }
    where
      go : (A : ℕ) → A < m + 1 → Dec (A ≡ m) → FirstOf g A 0 (get_or (set l m r) A 0)
      go A k (yes e) = rw e (subst (FirstOf g m 0) (sym (get_or-set_same l m r 0 h)) y)
      go A k (no e) =
          subst (FirstOf g A 0) (sym (get_or-set_other l m A r 0 e)) (x.first A (omega arith))

  pub nexts_more : (r : ℕ) → 64 + m < length l → Nexts g m l → FirstOf g (rule g m).left (m + 1) r
      → Nexts g (m + 1) (set l (64 + m) r)
  nexts_more r h x y = record { next = λ i k. go i k (ℕ_discrete i m) }
    where
      go : (i : ℕ) → i < m + 1 → Dec (i ≡ m)
          → FirstOf g (rule g i).left (i + 1) (get_or (set l (64 + m) r) (64 + i) 0)
      go i k (yes e) =
          rw e (subst (FirstOf g (rule g m).left (m + 1)) (sym (get_or-set_same l (64 + m) r 0 h))
          y)
      go i k (no e) = subst (FirstOf g (rule g i).left (i + 1))
          (sym (get_or-set_other l (64 + m) (64 + i) r 0 (λ z. e (omega arith))))
          (x.next i (omega arith))

pub firsts_kept : {g : Rules} {l : List ℕ} (m r : ℕ) → Firsts g 64 l
    → Firsts g 64 (set l (64 + m) r)
firsts_kept {g} {l} m r x = record {
  first = λ A k. subst (FirstOf g A 0)
      (sym (get_or-set_other l (64 + m) A r 0 (λ z. omega arith))) (x.first A k);
}
