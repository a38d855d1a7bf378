-- Every nonterminal of an expansion is written or new.
use mathlib.Core.Path.{◌≡◌}
use mathlib.Core.Logic.{⊎_elim}
use mathlib.Core.List.Memᴰ
use mathlib.Core.List.{◌++◌, Memᴰ}
use Prim.Native.Nat.{ℕ, ◌+◌, ◌≤◌, ◌<◌}
use native.Mathlib.Omega.{arith}
use Rattle.grammar.specs.declared.Rule.{Rule}
use Rattle.grammar.specs.declared.UnaryMark.{UnaryMark}
use Rattle.clauses.specs.Clauses as C
use Rattle.clauses.specs.Clauses.{Sort, item, alternatives, AtLeast, from_one, Expr}
use Rattle.clauses.specs.Clauses.{nonterminal, a_part, terminal, group, mark, pair, optional}
use Rattle.clauses.specs.Clauses.{repeated, only, or, Clauses, a_line}
use Rattle.clauses.specs.Expansion.{E, A, U, B, size, name, alternative_rules, repeat_begins}
use Rattle.clauses.specs.Expansion.{expr_rules, expand_from, size_all, past_all, expansion}
use Rattle.clauses.proofs.Bounds.{Terms, TermsAll, Under, UnderAll, Below}
use Rattle.clauses.proofs.Lines.{choices_among, made_grows, among_range}
use native.Mathlib.Nat.{le_refl}
use Rattle.clauses.proofs.Sorted.{rising_members, under_all}

low : (K : ℕ) (r h : Rule) → r ≡ h → Below K h.clause → Below K r.clause
low K r h e b = rw e b

module _ (N K : ℕ) (h : N ≤ K) where
  name_low : (n : ℕ) (e : Expr item) → Under N e → n + size e ≤ K → name e n < K
  name_low n (nonterminal L) u l = omega arith
  name_low n (a_part e) u l = let z = made_grows e in omega arith

  choices_low : (L : ℕ) (e : Expr alternatives) (n : ℕ) (r : Rule) → n + size e ≤ K
      → Memᴰ r (alternative_rules L e n) → Below K r.clause
  choices_low L e n r l m = let a = choices_among L e n r m in let b =
      among_range e n a.0 a.1 in low K r (U L a.0 UnaryMark.None) a.2 (omega arith)

  begins_low : (q : AtLeast) (n B : ℕ) → B < K → Below K (repeat_begins q n B).clause
  begins_low from_one n B l = l
  begins_low C.from_zero n B l = tt

  rules_low : {s : Sort} (e : Expr s) (n : ℕ) (r : Rule) → Under N e → Terms e → n + size e ≤ K
      → Memᴰ r (expr_rules e n) → Below K r.clause
  rules_low (nonterminal L) n r u t l m = absurd (Memᴰ.not-nil m)
  rules_low (a_part e) n r u t l m = rules_low e n r u t l m
  rules_low (terminal a) n r u t l m = ⊎_elim (λ q. low K r (A n a) q (t, t, le_refl a))
      (λ i. absurd (Memᴰ.not-nil i)) (Memᴰ.cases_cons m)
  rules_low (group e) n r u t l m =
      ⊎_elim (λ i. choices_low n e (n + 1) r (omega arith) i)
      (λ i. rules_low e (n + 1) r u t (omega arith) i)
      (Memᴰ.append_cases (alternative_rules n e (n + 1)) m)
  rules_low (mark μ e) n r u t l m =
      ⊎_elim (λ q. low K r (U n (name e (n + 1)) μ) q (name_low (n + 1) e u (omega arith)))
      (λ i. rules_low e (n + 1) r u t (omega arith) i) (Memᴰ.cases_cons m)
  rules_low (pair μ e f) n r u t l m =
      let k = n + 1 + size e in
      let here : (name e (n + 1) < K) × (name f k < K) =
      (name_low (n + 1) e u.0 (omega arith), name_low k f u.1 (omega arith)) in
      ⊎_elim (λ q. low K r (B n (name e (n + 1)) (name f k) μ) q here)
      (λ i. ⊎_elim (λ j. rules_low e (n + 1) r u.0 t.0 (omega arith) j)
      (λ j. rules_low f k r u.1 t.1 (omega arith) j)
      (Memᴰ.append_cases (expr_rules e (n + 1)) i))
      (Memᴰ.cases_cons m)
  rules_low (optional e) n r u t l m =
      ⊎_elim (λ q. low K r (U n (name e (n + 1)) UnaryMark.None) q
      (name_low (n + 1) e u (omega arith)))
      (λ i. ⊎_elim (λ q. low K r (E n) q tt) (λ j. rules_low e (n + 1) r u t (omega arith) j)
      (Memᴰ.cases_cons i)) (Memᴰ.cases_cons m)
  rules_low (repeated q μ e) n r u t l m =
      let b = name e (n + 2) in
      let z = name_low (n + 2) e u (omega arith) in
      ⊎_elim (λ p. low K r (repeat_begins q n b) p (begins_low q n b z))
      (λ i. ⊎_elim (λ p. low K r (U n (n + 1) UnaryMark.None) p (omega arith))
      (λ j. ⊎_elim (λ p. low K r (B (n + 1) n b μ) p (omega arith, z))
      (λ k. rules_low e (n + 2) r u t (omega arith) k) (Memᴰ.cases_cons j))
      (Memᴰ.cases_cons i))
      (Memᴰ.cases_cons m)
  rules_low (only e) n r u t l m = rules_low e n r u t l m
  rules_low (or e f) n r u t l m =
      ⊎_elim (λ i. rules_low e n r u.0 t.0 (omega arith) i)
      (λ i. rules_low f (n + size e) r u.1 t.1 (omega arith) i)
      (Memᴰ.append_cases (expr_rules e n) m)

  sheet_low : (c : Clauses) (n : ℕ) (r : Rule) → UnderAll N c → TermsAll c → n + size_all c ≤ K
      → Memᴰ r (expand_from c n) → Below K r.clause
  sheet_low C.no_line n r u t l m = absurd (Memᴰ.not-nil m)
  sheet_low (a_line L e c) n r u t l m =
      ⊎_elim
      (λ i. ⊎_elim (λ j. choices_low L e n r (omega arith) j)
      (λ j. rules_low e n r u.1.0 t.0 (omega arith) j)
      (Memᴰ.append_cases (alternative_rules L e n) i))
      (λ i. sheet_low c (n + size e) r u.1.1 t.1 (omega arith) i)
      (Memᴰ.append_cases (alternative_rules L e n ++ expr_rules e n) m)

-- with refusal 43 not given, past_all c + size_all c ≤ 64, every nonterminal is at most 63
pub expansion_low : (c : Clauses) (r : Rule) → TermsAll c → Memᴰ r (expansion c)
    → Below (past_all c + size_all c) r.clause
expansion_low c r t m =
    let N = past_all c in
    let K = N + size_all c in
    sheet_low N K (omega arith) c N r (under_all c N (le_refl _)) t (le_refl _)
    (rising_members K (expand_from c N) r m)
