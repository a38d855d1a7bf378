-- The expansion has the rules that the text gives, in another order, and every nonterminal written
-- is below the new ones.
use mathlib.Core.Path.{◌≡◌, refl, sym, ◌∙◌, ap, subst}
use mathlib.Core.Logic.{⊎_elim}
use mathlib.Core.List.Memᴰ
use mathlib.Core.List.{[], ◌∷◌, Memᴰ}
use Prim.Native.Nat.{ℕ, zero, suc, ◌+◌, ◌≤◌, ◌<◌, max}
use native.Mathlib.Omega.{arith}
use Rattle.grammar.specs.declared.Rule.{Rule}
use Rattle.grammar.specs.Trees.{Rules}
use Rattle.clauses.specs.Clauses as C
use Rattle.clauses.specs.Clauses.{Sort, Expr, nonterminal, a_part, terminal, group, mark}
use Rattle.clauses.specs.Clauses.{pair, optional, repeated, only, or, Clauses, a_line}
use Rattle.clauses.specs.Expansion.{expand_from, size_all, of, rising, past_expr, past_all}
use Rattle.clauses.specs.Expansion.{expansion}
use Rattle.clauses.proofs.Bounds.{Under, UnderAll}
use Rattle.clauses.proofs.Lines.{sheet_owned}
use Rattle.clauses.proofs.Forward.{Expands}
use mathlib.Core.Bool.{Bool, true, false}
use lib.Dec.{T, eqb, ltb, eqb_refl, ltb→lt, nltb→le}
use native.Mathlib.Nat.{le_refl, le_trans}

abbrev pub put : Bool → Rule → Rules → Rules
put b h g = elim b [ true ↦ h ∷ g | false ↦ g ]

pub put_members : (b : Bool) (h : Rule) (g f : Rules) (r : Rule) → (Memᴰ r g → Memᴰ r f)
    → Memᴰ r (put b h g) → Memᴰ r (h ∷ f)
put_members true h g f r k m =
    ⊎_elim (λ e. Memᴰ.head e) (λ i. Memᴰ.tail (k i)) (Memᴰ.cases_cons m)
put_members false h g f r k m = Memᴰ.tail (k m)

put_tail : (b : Bool) (h : Rule) (g : Rules) (r : Rule) → Memᴰ r g → Memᴰ r (put b h g)
put_tail true h g r m = Memᴰ.tail m
put_tail false h g r m = m

put_head : (b : Bool) (h : Rule) (g : Rules) (r : Rule) → T b → r ≡ h → Memᴰ r (put b h g)
put_head true h g r t e = Memᴰ.head e
put_head false h g r t e = absurd t

eq→test : {m n : ℕ} → m ≡ n → T (eqb m n)
eq→test {m} e = subst (λ (k : ℕ). T (eqb m k)) e (eqb_refl m)

pub of_members : (L : ℕ) (g : Rules) (r : Rule) → Memᴰ r (of L g) → Memᴰ r g
of_members L [] r m = m
of_members L (h ∷ g) r m = put_members (eqb h.left L) h (of L g) g r (of_members L g r) m

pub members_of : (L : ℕ) (g : Rules) (r : Rule) → r.left ≡ L → Memᴰ r g → Memᴰ r (of L g)
members_of L [] r q m = m
members_of L (h ∷ g) r q m =
    ⊎_elim (λ e. put_head (eqb h.left L) h (of L g) r
    (eq→test (sym (ap (λ (x : Rule). x.left) e) ∙ q)) e)
    (λ i. put_tail (eqb h.left L) h (of L g) r (members_of L g r q i)) (Memᴰ.cases_cons m)

pub rising_members : (K : ℕ) (g : Rules) (r : Rule) → Memᴰ r (rising K g) → Memᴰ r g
rising_members zero g r m = absurd (Memᴰ.not-nil m)
rising_members (suc K) g r m = ⊎_elim (λ i. rising_members K g r i) (λ i. of_members K g r i)
    (Memᴰ.append_cases (rising K g) m)

pub members_rising : (K : ℕ) (g : Rules) (r : Rule) → r.left < K → Memᴰ r g
    → Memᴰ r (rising K g)
members_rising zero g r h m = absurd (omega arith)
members_rising (suc K) g r h m = go (λ l. members_rising K g r l m) (ltb r.left K) refl
  where
    go : (r.left < K → Memᴰ r (rising K g)) → (b : Bool) → ltb r.left K ≡ b
        → Memᴰ r (rising (suc K) g)
    go f true e = Memᴰ.append_left (of K g) (f (ltb→lt r.left K (rw e tt)))
    go f false e = Memᴰ.append_right (rising K g)
        (members_of K g r (let z = nltb→le r.left K (rw e tt) in omega arith) m)

pub max_bounds : (m n : ℕ) → (m ≤ max m n) × (n ≤ max m n)
max_bounds m n = (omega arith, omega arith)

under_past : {s : Sort} (e : Expr s) (N : ℕ) → past_expr e ≤ N → Under N e
under_past (nonterminal L) N h = omega arith
under_past (a_part e) N h = under_past e N h
under_past (terminal a) N h = tt
under_past (group e) N h = under_past e N h
under_past (mark m e) N h = under_past e N h
under_past (pair m e f) N h = let z = max_bounds (past_expr e) (past_expr f) in
    (under_past e N (le_trans z.0 h), under_past f N (le_trans z.1 h))
under_past (optional e) N h = under_past e N h
under_past (repeated q m e) N h = under_past e N h
under_past (only e) N h = under_past e N h
under_past (or e f) N h = let z = max_bounds (past_expr e) (past_expr f) in
    (under_past e N (le_trans z.0 h), under_past f N (le_trans z.1 h))

pub under_all : (c : Clauses) (N : ℕ) → past_all c ≤ N → UnderAll N c
under_all C.no_line N h = tt
under_all (a_line L e c) N h =
    let z = max_bounds (max (L + 1) (past_expr e)) (past_all c) in
    let y = max_bounds (L + 1) (past_expr e) in (
      let a = le_trans y.0 (le_trans z.0 h) in
          omega arith,
      (
        under_past e N (le_trans y.1 (le_trans z.0 h)),
        under_all c N
            (le_trans z.1 h),
      ),
    )

pub expands : (c : Clauses) → Expands c (past_all c) (expansion c)
expands c =
    let u = under_all c (past_all c) (le_refl _) in
    record {
      up =
          λ r m. members_rising (past_all c + size_all c) (expand_from c (past_all c)) r
          (⊎_elim (λ k. omega arith) (λ o. let a = o.below in a)
          (sheet_owned c (past_all c) r u (le_refl _) m)) m;
      down = λ r m. rising_members (past_all c + size_all c) (expand_from c (past_all c)) r m;
      under = u;
    }

pub max_least : (m n k : ℕ) → m ≤ k → n ≤ k → max m n ≤ k
max_least m n k p q = omega arith
