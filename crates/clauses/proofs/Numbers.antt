-- Which rules a part of a clause sheet owns: those whose left lies among its new nonterminals.
use mathlib.Core.Path.{◌≡◌, refl, ap}
use mathlib.Core.Logic.{⊎_elim}
use mathlib.Core.List.Memᴰ
use mathlib.Core.List.{◌∷◌, Memᴰ}
use Prim.Native.Nat.{ℕ, ◌+◌, ◌≤◌, ◌<◌}
use native.Mathlib.Omega.{arith}
use Rattle.grammar.specs.declared.Rule.{Rule}
use Rattle.grammar.specs.Trees.{Rules}
use Rattle.clauses.specs.Clauses as C
use Rattle.clauses.specs.Clauses.{Sort, alternatives, AtLeast, from_one, Expr, nonterminal}
use Rattle.clauses.specs.Clauses.{a_part, terminal, group, mark, pair, optional, repeated}
use Rattle.clauses.specs.Clauses.{only, or}
use Rattle.clauses.specs.Expansion.{A, B, size, name, alternative_rules, repeat_begins}
use Rattle.clauses.specs.Expansion.{expr_rules}

-- r's left is one of k numbers from n on
pub record Owned (n k : ℕ) (r : Rule) : Type 0 where
  pub from : n ≤ r.left
  pub below : r.left < n + k

-- all lefts are L
pub choices_left : (L : ℕ) (e : Expr alternatives) (n : ℕ) (r : Rule)
    → Memᴰ r (alternative_rules L e n) → r.left ≡ L
choices_left L (only e) n r m = ⊎_elim (λ q. ap (λ (x : Rule). x.left) q)
    (λ k. absurd (Memᴰ.not-nil k)) (Memᴰ.cases_cons m)
choices_left L (or e f) n r m = ⊎_elim (λ q. ap (λ (x : Rule). x.left) q)
    (λ k. choices_left L f (n + size e) r k) (Memᴰ.cases_cons m)

-- the head of a list has left n, or the rest decides
pub at_head : {n k : ℕ} {r h : Rule} {g : Rules} → n ≤ h.left → h.left < n + k
    → (Memᴰ r g → Owned n k r) → Memᴰ r (h ∷ g) → Owned n k r
at_head {n} {k} {r} {h} p q f m =
    ⊎_elim (λ e. let z : r.left ≡ h.left = ap (λ (x : Rule). x.left) e in
    record { from = omega arith; below = omega arith }) f (Memᴰ.cases_cons m)

pub wider : {n k n' k' : ℕ} {r : Rule} → n' ≤ n → n + k ≤ n' + k' → Owned n k r → Owned n' k' r
wider p q o = record { from = omega arith; below = omega arith }

pub begins_left : (q : AtLeast) (n B : ℕ) → (repeat_begins q n B).left ≡ n
begins_left from_one n B = refl
begins_left C.from_zero n B = refl

pub owned : {s : Sort} (e : Expr s) (n : ℕ) (r : Rule) → Memᴰ r (expr_rules e n)
    → Owned n (size e) r
owned (nonterminal A) n r m = absurd (Memᴰ.not-nil m)
owned (a_part e) n r m = owned e n r m
owned (terminal a) n r m = at_head (omega arith) (omega arith) (λ k. absurd (Memᴰ.not-nil k)) m
owned (group e) n r m =
    ⊎_elim (λ k. let z = choices_left n e (n + 1) r k in
    record { from = omega arith; below = omega arith })
    (λ k. wider (omega arith) (omega arith) (owned e (n + 1) r k))
    (Memᴰ.append_cases (alternative_rules n e (n + 1)) m)
owned (mark μ e) n r m = at_head (omega arith) (omega arith)
    (λ k. wider (omega arith) (omega arith) (owned e (n + 1) r k)) m
owned (pair μ e f) n r m =
    at_head (omega arith) (omega arith)
    (λ k. ⊎_elim (λ l. wider (omega arith) (omega arith) (owned e (n + 1) r l))
    (λ l. wider (omega arith) (omega arith) (owned f (n + 1 + size e) r l))
    (Memᴰ.append_cases (expr_rules e (n + 1)) k)) m
owned (optional e) n r m =
    at_head (omega arith) (omega arith)
    (λ k. at_head (omega arith) (omega arith)
    (λ l. wider (omega arith) (omega arith) (owned e (n + 1) r l)) k) m
owned (repeated q μ e) n r m =
    let z = begins_left q n (name e (n + 2)) in
    at_head (omega arith) (omega arith)
    (λ k. at_head (omega arith) (omega arith)
    (λ l. at_head (omega arith) (omega arith)
    (λ i. wider (omega arith) (omega arith) (owned e (n + 2) r i)) l) k) m
owned (only e) n r m = owned e n r m
owned (or e f) n r m =
    ⊎_elim (λ k. wider (omega arith) (omega arith) (owned e n r k))
    (λ k. wider (omega arith) (omega arith) (owned f (n + size e) r k))
    (Memᴰ.append_cases (expr_rules e n) m)
