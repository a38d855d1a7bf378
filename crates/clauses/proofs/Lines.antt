-- The lines of a clause sheet in the expansion.
use mathlib.Core.Path.{◌≡◌, refl, ap}
use mathlib.Core.Logic.{◌⊎◌, inl, inr, ⊎_elim}
use mathlib.Core.List.Memᴰ
use mathlib.Core.List.{◌++◌, Memᴰ}
use Prim.Native.Nat.{ℕ, ◌+◌, ◌≤◌, ◌<◌}
use native.Mathlib.Omega.{arith}
use Rattle.grammar.specs.declared.Rule.{Rule}
use Rattle.grammar.specs.declared.UnaryMark.{UnaryMark}
use Rattle.grammar.specs.Trees.{Rules}
use Rattle.clauses.specs.Clauses as C
use Rattle.clauses.specs.Clauses.{made, alternatives, Expr, terminal, group, mark, pair}
use Rattle.clauses.specs.Clauses.{optional, repeated, only, or, Clauses, a_line}
use Rattle.clauses.specs.Readings.{ClausePlace, here, later, left, right}
use Rattle.clauses.specs.Expansion.{U, size, alternative_rules, expr_rules, expand_from}
use Rattle.clauses.specs.Expansion.{size_all}
use Rattle.clauses.proofs.Bounds.{UnderAll, start, Among}
use Rattle.clauses.proofs.Numbers.{Owned, owned, choices_left}
use Rattle.clauses.proofs.Placed.{Placed}

module _ {N : ℕ} where
  -- a rule of the sheet goes from a written nonterminal or from a new one
  pub sheet_owned : (c : Clauses) (n : ℕ) (r : Rule) → UnderAll N c → N ≤ n
      → Memᴰ r (expand_from c n) → (r.left < N) ⊎ Owned n (size_all c) r
  sheet_owned C.no_line n r u h m = absurd (Memᴰ.not-nil m)
  sheet_owned (a_line L e c) n r u h m =
      ⊎_elim
      (λ k. ⊎_elim (λ l. let z = choices_left L e n r l in let y = u.0 in inl (omega arith))
      (λ l. let o = owned e n r l in inr (record { from = omega arith; below = omega arith }))
      (Memᴰ.append_cases (alternative_rules L e n) k))
      (λ k. ⊎_elim (λ l. inl l) (λ o. inr
      (record { from = omega arith; below = omega arith }))
      (sheet_owned c (n + size e) r u.1.1 (omega arith) k))
      (Memᴰ.append_cases (alternative_rules L e n ++ expr_rules e n) m)

  pub placed : {g : Rules} {c : Clauses} (p : ClausePlace c) (n : ℕ) → UnderAll N c → N ≤ n
      → ((r : Rule) → Memᴰ r (expand_from c n) → Memᴰ r g)
      → ((r : Rule) → Memᴰ r g → n ≤ r.left → r.left < n + size_all c
      → Memᴰ r (expand_from c n)) → Placed N g (right p) (start p n)
  placed (here {A = L} {e = e} {c = c}) n u h up down =
      record {
        up = λ {r} m. up r (Memᴰ.append_left (expand_from c (n + size e))
            (Memᴰ.append_right (alternative_rules L e n) m));
        down = λ {r} m k l.
            ⊎_elim
            (λ i. ⊎_elim (λ j. let z = choices_left L e n r j in let y = u.0 in
            absurd (omega arith)) (λ j. j) (Memᴰ.append_cases (alternative_rules L e n) i))
            (λ i. absurd (⊎_elim (λ o. omega arith) (λ o. omega arith)
            (sheet_owned c (n + size e) r u.1.1 (omega arith) i)))
            (Memᴰ.append_cases (alternative_rules L e n ++ expr_rules e n)
            (down r m k (omega arith)));
        under = u.1.0;
        above = h;
      }
  placed (later {A = L} {e = e} {c = c} p) n u h up down =
      placed p (n + size e) u.1.1 (omega arith)
      (λ r m. up r (Memᴰ.append_right (alternative_rules L e n ++ expr_rules e n) m)) (λ r m k l.
      ⊎_elim
      (λ i. absurd (⊎_elim (λ j. let z = choices_left L e n r j in let y = u.0 in omega arith)
      (λ j. let o = owned e n r j in omega arith)
      (Memᴰ.append_cases (alternative_rules L e n) i))) (λ i. i)
      (Memᴰ.append_cases (alternative_rules L e n ++ expr_rules e n)
      (down r m (omega arith) (omega arith))))

  pub lines : (c : Clauses) (n : ℕ) (r : Rule) → UnderAll N c → N ≤ n → r.left < N
      → Memᴰ r (expand_from c n)
      → (p : ClausePlace c) × Memᴰ r (alternative_rules (left p) (right p) (start p n))
  lines C.no_line n r u h l m = absurd (Memᴰ.not-nil m)
  lines (a_line L e c) n r u h l m =
      ⊎_elim
      (λ k. ⊎_elim (λ i. (here, i)) (λ i. let o = owned e n r i in absurd (omega arith))
      (Memᴰ.append_cases (alternative_rules L e n) k))
      (λ k. let s = lines c (n + size e) r u.1.1 (omega arith) l k in (later s.0, s.1))
      (Memᴰ.append_cases (alternative_rules L e n ++ expr_rules e n) m)

pub chosen : {c : Clauses} {r : Rule} (p : ClausePlace c) (n : ℕ)
    → Memᴰ r (alternative_rules (left p) (right p) (start p n)) → Memᴰ r (expand_from c n)
chosen (here {A = L} {e = e} {c = c}) n m =
    Memᴰ.append_left (expand_from c (n + size e)) (Memᴰ.append_left (expr_rules e n) m)
chosen (later {A = L} {e = e} {c = c} p) n m =
    Memᴰ.append_right (alternative_rules L e n ++ expr_rules e n) (chosen p (n + size e) m)

pub among_choices : (L : ℕ) (e : Expr alternatives) (n k : ℕ) → Among e n k
    → Memᴰ (U L k UnaryMark.None) (alternative_rules L e n)
among_choices L (only e) n k q = Memᴰ.head (ap (λ (x : ℕ). U L x UnaryMark.None) q)
among_choices L (or e f) n k (inl q) = Memᴰ.head (ap (λ (x : ℕ). U L x UnaryMark.None) q)
among_choices L (or e f) n k (inr m) = Memᴰ.tail (among_choices L f (n + size e) k m)

pub choices_among : (L : ℕ) (e : Expr alternatives) (n : ℕ) (r : Rule)
    → Memᴰ r (alternative_rules L e n) → (k : ℕ) × Among e n k × (r ≡ U L k UnaryMark.None)
choices_among L (only e) n r m =
    ⊎_elim (λ q. (n, refl, q)) (λ k. absurd (Memᴰ.not-nil k)) (Memᴰ.cases_cons m)
choices_among L (or e f) n r m =
    ⊎_elim (λ q. (n, inl refl, q)) (λ k. let s = choices_among L f (n + size e) r k in
    (s.0, inr s.1, s.2)) (Memᴰ.cases_cons m)

pub start_from : {c : Clauses} (p : ClausePlace c) (n : ℕ) → n ≤ start p n
start_from here n = omega arith
start_from (later {e = e} p) n = let z = start_from p (n + size e) in omega arith

pub made_grows : (e : Expr made) → 1 ≤ size e
made_grows (terminal a) = omega arith
made_grows (group e) = omega arith
made_grows (mark m e) = omega arith
made_grows (pair m e f) = omega arith
made_grows (optional e) = omega arith
made_grows (repeated q m e) = omega arith

pub among_range : (e : Expr alternatives) (n k : ℕ) → Among e n k → (n ≤ k) × (k < n + size e)
among_range (only e) n k q = let z = made_grows e in (omega arith, omega arith)
among_range (or e f) n k (inl q) = let z = made_grows e in (omega arith, omega arith)
among_range (or e f) n k (inr m) = let z = among_range f (n + size e) k m in
    (omega arith, omega arith)
