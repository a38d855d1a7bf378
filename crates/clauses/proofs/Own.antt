-- Which clauses a new nonterminal has.
use mathlib.Core.Path.{◌≡◌, ap}
use mathlib.Core.Logic.{◌⊎◌, inl, inr, ⊎_elim}
use mathlib.Core.List.Memᴰ
use mathlib.Core.List.{Memᴰ}
use Prim.Native.Nat.{ℕ, ◌+◌, ◌≤◌, ◌<◌}
use native.Mathlib.Omega.{arith}
use Rattle.grammar.specs.declared.Rule.{Rule}
use Rattle.grammar.specs.declared.Clause.{Clause}
use Rattle.grammar.specs.declared.UnaryMark.{UnaryMark}
use Rattle.grammar.specs.declared.BinaryMark.{BinaryMark}
use Rattle.grammar.specs.declared.Clause.TheVariants.{Empty, Atom, Unary, Binary}
use Rattle.grammar.specs.Trees.{Rules}
use Rattle.clauses.specs.Clauses as C
use Rattle.clauses.specs.Clauses.{Sort, item, made, AtLeast, from_one, Expr, terminal, group}
use Rattle.clauses.specs.Clauses.{mark, pair, optional, repeated}
use Rattle.clauses.specs.Expansion.{size, name, alternative_rules, expr_rules}
use Rattle.clauses.proofs.Bounds.{Among}
use Rattle.clauses.proofs.Numbers.{owned, begins_left}
use Rattle.clauses.proofs.Placed.{Placed, skip}
use Rattle.clauses.proofs.Lines.{choices_among}

abbrev pub Own : Expr made → ℕ → Clause → Type 0
Own (terminal a) n k = k ≡ Atom a a
Own (group e) n k = (i : ℕ) × Among e (n + 1) i × (k ≡ Unary i UnaryMark.None)
Own (mark m e) n k = k ≡ Unary (name e (n + 1)) m
Own (pair m e f) n k = k ≡ Binary (name e (n + 1)) (name f (n + 1 + size e)) m
Own (optional e) n k = (k ≡ Unary (name e (n + 1)) UnaryMark.None) ⊎ (k ≡ Empty)
Own (repeated from_one m e) n k =
    (k ≡ Unary (name e (n + 2)) UnaryMark.None) ⊎ (k ≡ Unary (n + 1) UnaryMark.None)
Own (repeated C.from_zero m e) n k = (k ≡ Empty) ⊎ (k ≡ Unary (n + 1) UnaryMark.None)

abbrev pub rule : ℕ → Clause → Rule
rule n k = record { left = n; clause = k }

pub same_clause : {n m : ℕ} {k l : Clause} → rule n k ≡ rule m l → k ≡ l
same_clause e = ap (λ (r : Rule). r.clause) e

out_of : {n : ℕ} {k : Clause} {s : Sort} (e : Expr s) (i : ℕ) → n < i
    → Memᴰ (rule n k) (expr_rules e i) → ⊥
out_of e i h m = let o = owned e i _ m in omega arith

own_here : (e : Expr made) (n : ℕ) (k : Clause) → Memᴰ (rule n k) (expr_rules e n) → Own e n k
own_here (terminal a) n k m =
    ⊎_elim same_clause (λ i. absurd (Memᴰ.not-nil i)) (Memᴰ.cases_cons m)
own_here (group e) n k m =
    ⊎_elim (λ i. let s = choices_among n e (n + 1) _ i in (s.0, s.1, same_clause s.2))
    (λ i. absurd (out_of e (n + 1) (omega arith) i))
    (Memᴰ.append_cases (alternative_rules n e (n + 1)) m)
own_here (mark μ e) n k m =
    ⊎_elim same_clause (λ i. absurd (out_of e (n + 1) (omega arith) i)) (Memᴰ.cases_cons m)
own_here (pair μ e f) n k m =
    ⊎_elim same_clause
    (λ i. absurd (⊎_elim (λ j. out_of e (n + 1) (omega arith) j)
    (λ j. out_of f (n + 1 + size e) (omega arith) j)
    (Memᴰ.append_cases (expr_rules e (n + 1)) i))) (Memᴰ.cases_cons m)
own_here (optional e) n k m =
    ⊎_elim (λ q. inl (same_clause q))
    (λ i. ⊎_elim (λ q. inr (same_clause q)) (λ j. absurd (out_of e (n + 1) (omega arith) j))
    (Memᴰ.cases_cons i)) (Memᴰ.cases_cons m)
own_here (repeated from_one μ e) n k m =
    ⊎_elim (λ q. inl (same_clause q))
    (λ i. ⊎_elim (λ q. inr (same_clause q))
    (λ j. absurd (out_of e (n + 2) (omega arith) (skip (λ z. omega arith) j)))
    (Memᴰ.cases_cons i)) (Memᴰ.cases_cons m)
own_here (repeated C.from_zero μ e) n k m =
    ⊎_elim (λ q. inl (same_clause q))
    (λ i. ⊎_elim (λ q. inr (same_clause q))
    (λ j. absurd (out_of e (n + 2) (omega arith) (skip (λ z. omega arith) j)))
    (Memᴰ.cases_cons i)) (Memᴰ.cases_cons m)

module _ {N : ℕ} {g : Rules} where
  pub own : (e : Expr made) (n : ℕ) (k : Clause) → Placed N g e n → 1 ≤ size e
      → Memᴰ (rule n k) g → Own e n k
  own e n k p h m = own_here e n k (p.down m (omega arith) (omega arith))

  -- the fresh C of a repeat
  pub own_fresh : (q : AtLeast) (μ : BinaryMark) (e : Expr item) (n : ℕ) (k : Clause)
      → Placed N g (repeated q μ e) n → Memᴰ (rule (n + 1) k) g
      → k ≡ Binary n (name e (n + 2)) μ
  own_fresh q μ e n k p m =
      ⊎_elim same_clause (λ i. absurd (out_of e (n + 2) (omega arith) i))
      (Memᴰ.cases_cons (skip (λ z. omega arith)
      (skip (λ z. let y = begins_left q n (name e (n + 2)) in omega arith)
      (p.down m (omega arith) (omega arith)))))
