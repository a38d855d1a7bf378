-- Laws of tests put together, and of sets that grow by one test.
use mathlib.Core.Path.{◌≡◌, refl, subst}
use mathlib.Core.Logic.{◌⊎◌, inl, inr, ⊎_elim}
use mathlib.Core.Bool.{Bool, true, false, ◌&&◌, ◌||◌}
use Prim.Native.Nat.{ℕ, ◌≤◌}
use lib.Dec.{leb}
use Rattle.sets.specs.Says.{Says}
use Rattle.sets.proofs.Says.{holds, fails, says_leb}
use Rattle.acyclic.specs.Passes.{Extended}
use Rattle.acyclic.proofs.Growth.{grown_none, grown_map, grown_both}

pub says_both : {r x y : Bool} {P Q : Type 0} → r ≡ (x && y) → Says x P → Says y Q → Says r (P × Q)
says_both {r} {x} {y} {P} {Q} e p q = rw e (go x y p q)
  where
    go : (x y : Bool) → Says x P → Says y Q → Says (x && y) (P × Q)
    go true true p q = holds (p.is refl, q.is refl)
    go true false p q = fails (λ h. q.isnt refl h.1)
    go false y p q = fails (λ h. p.isnt refl h.0)

pub says_either : {r x y : Bool} {P Q : Type 0} → r ≡ (x || y) → Says x P → Says y Q
    → Says r (P ⊎ Q)
says_either {r} {x} {y} {P} {Q} e p q = rw e (go x y p q)
  where
    go : (x y : Bool) → Says x P → Says y Q → Says (x || y) (P ⊎ Q)
    go true y p q = holds (inl (p.is refl))
    go false true p q = holds (inr (q.is refl))
    go false false p q = fails (λ h. ⊎_elim (p.isnt refl) (q.isnt refl) h)

-- a number that is n is at most k
pub says_most : {m n k : ℕ} → m ≡ n → Says (leb m k) (n ≤ k)
says_most {m} {n} {k} e = subst (λ i. Says (leb m k) (i ≤ k)) e (says_leb m k)

says_true : {b : Bool} {P : Type 0} → Says b P → P → b ≡ true
says_true {b} {P} s p = go b s
  where
    go : (b : Bool) → Says b P → b ≡ true
    go true s = refl
    go false s = absurd (s.isnt refl p)

-- what is added where a test says yes
pub grown_if : {b : Bool} {P : Type 0} {Q : ℕ → Type 0} {s t : ℕ} → Says b P
    → Extended (λ Y. (b ≡ true) × Q Y) s t → Extended (λ Y. P × Q Y) s t
grown_if p x = grown_map x (λ Y h. (p.is h.0, h.1)) (λ Y h. (says_true p h.0, h.1))

-- what is added where Q holds
pub grown_where : {P : Type 0} {Q : ℕ → Type 0} {s t : ℕ} → P → Extended Q s t
    → Extended (λ Y. P × Q Y) s t
grown_where p x = grown_map x (λ Y h. (p, h)) (λ Y h. h.1)

pub grown_not : {P : Type 0} {Q : ℕ → Type 0} {s : ℕ} → (P → ⊥) → Extended (λ Y. P × Q Y) s s
grown_not n = grown_none (λ Y h. absurd (n h.0))

pub grown_turn : {P : Type 0} {Q : ℕ → Type 0} {s t : ℕ} → Extended (λ Y. P × Q Y) s t
    → Extended (λ Y. Q Y × P) s t
grown_turn x = grown_map x (λ Y h. (h.1, h.0)) (λ Y h. (h.1, h.0))

-- one or the other is added
pub grown_then : {P Q : ℕ → Type 0} {s t u : ℕ} → Extended P s t → Extended Q t u
    → Extended (λ Y. P Y ⊎ Q Y) s u
grown_then x y = grown_both x y (λ Y h. h) (λ Y h. h)

-- one test lets both in
pub grown_two : {P : Type 0} {Q R : ℕ → Type 0} {s t u : ℕ} → Extended (λ Y. P × Q Y) s t
    → Extended (λ Y. P × R Y) t u → Extended (λ Y. P × (Q Y ⊎ R Y)) s u
grown_two x y =
    grown_both x y (λ Y h. ⊎_elim (λ q. inl (h.0, q)) (λ r. inr (h.0, r)) h.1)
    (λ Y h. ⊎_elim (λ q. (q.0, inl q.1)) (λ r. (r.0, inr r.1)) h)
