-- A part stands in a grammar: its rules are the grammar's, and the grammar has no others with such
-- lefts.
use mathlib.Core.Path.{◌≡◌, ap}
use mathlib.Core.Logic.{⊎_elim}
use mathlib.Core.List.Memᴰ
use mathlib.Core.List.{◌∷◌, Memᴰ}
use Prim.Native.Nat.{ℕ, ◌+◌, ◌≤◌, ◌<◌}
use native.Mathlib.Omega.{arith}
use Rattle.grammar.specs.declared.Rule.{Rule}
use Rattle.grammar.specs.declared.UnaryMark.{UnaryMark}
use Rattle.grammar.specs.declared.BinaryMark.{BinaryMark}
use Rattle.grammar.specs.Trees.{Rules}
use Rattle.clauses.specs.Clauses.{Sort, item, made, alternatives, AtLeast, Expr, a_part}
use Rattle.clauses.specs.Clauses.{group, mark, pair, optional, repeated, only, or}
use Rattle.clauses.specs.Expansion.{size, name, alternative_rules, expr_rules}
use Rattle.clauses.proofs.Bounds.{Under}
use Rattle.clauses.proofs.Numbers.{owned, choices_left, begins_left}

pub record Placed (N : ℕ) (g : Rules) {s : Sort} (e : Expr s) (n : ℕ) : Type 0 where
  pub up : {r : Rule} → Memᴰ r (expr_rules e n) → Memᴰ r g
  pub down : {r : Rule} → Memᴰ r g → n ≤ r.left → r.left < n + size e
      → Memᴰ r (expr_rules e n)
  pub under : Under N e
  pub above : N ≤ n

-- a head whose left is not wanted
pub skip : {r h : Rule} {g : Rules} → (r.left ≡ h.left → ⊥) → Memᴰ r (h ∷ g) → Memᴰ r g
skip f m = ⊎_elim (λ e. absurd (f (ap (λ (x : Rule). x.left) e))) (λ k. k) (Memᴰ.cases_cons m)

module _ {N : ℕ} {g : Rules} where
  pub in_part : {e : Expr made} {n : ℕ} → Placed N g (a_part e) n → Placed N g e n
  in_part p = record { up = p.up; down = p.down; under = p.under; above = p.above }

  pub in_only : {e : Expr made} {n : ℕ} → Placed N g (only e) n → Placed N g e n
  in_only p = record { up = p.up; down = p.down; under = p.under; above = p.above }

  pub to_part : {e : Expr made} {n : ℕ} → Placed N g e n → Placed N g (a_part e) n
  to_part p = record { up = p.up; down = p.down; under = p.under; above = p.above }

  pub in_group : {e : Expr alternatives} {n : ℕ} → Placed N g (group e) n → Placed N g e (n + 1)
  in_group {e} {n} p =
      record {
        up = λ m. p.up (Memᴰ.append_right (alternative_rules n e (n + 1)) m);
        down =
            λ {r} m h l. ⊎_elim (λ k. let z = choices_left n e (n + 1) r k in absurd (omega arith))
            (λ k. k)
            (Memᴰ.append_cases (alternative_rules n e (n + 1))
            (p.down m (omega arith) (omega arith)));
        under = p.under;
        above = let z = p.above in omega arith;
      }

  pub in_mark : {μ : UnaryMark} {e : Expr item} {n : ℕ} → Placed N g (mark μ e) n
      → Placed N g e (n + 1)
  in_mark {n} p =
      record {
        up = λ m. p.up (Memᴰ.tail m);
        down = λ m h l. skip (λ z. omega arith) (p.down m (omega arith) (omega arith));
        under = p.under;
        above = let z = p.above in omega arith;
      }

  pub in_optional : {e : Expr item} {n : ℕ} → Placed N g (optional e) n → Placed N g e (n + 1)
  in_optional {n} p =
      record {
        up = λ m. p.up (Memᴰ.tail (Memᴰ.tail m));
        down = λ m h l. skip (λ z. omega arith)
            (skip (λ z. omega arith) (p.down m (omega arith) (omega arith)));
        under = p.under;
        above = let z = p.above in omega arith;
      }

  pub in_repeated : {q : AtLeast} {μ : BinaryMark} {e : Expr item} {n : ℕ}
      → Placed N g (repeated q μ e) n → Placed N g e (n + 2)
  in_repeated {q} {e = e} {n} p =
      record {
        up = λ m. p.up (Memᴰ.tail (Memᴰ.tail (Memᴰ.tail m)));
        down =
            λ m h l. skip (λ z. omega arith)
            (skip (λ z. omega arith) (skip (λ z. let y = begins_left q n (name e (n + 2)) in
            omega arith) (p.down m (omega arith) (omega arith))));
        under = p.under;
        above = let z = p.above in omega arith;
      }

  pub in_first : {μ : BinaryMark} {e f : Expr item} {n : ℕ} → Placed N g (pair μ e f) n
      → Placed N g e (n + 1)
  in_first {e} {f} {n} p =
      record {
        up = λ m. p.up (Memᴰ.tail (Memᴰ.append_left (expr_rules f (n + 1 + size e)) m));
        down = λ {r} m h l. ⊎_elim (λ k. k)
            (λ k. let o = owned f (n + 1 + size e) r k in absurd (omega arith))
            (Memᴰ.append_cases (expr_rules e (n + 1))
            (skip (λ z. omega arith) (p.down m (omega arith) (omega arith))));
        under = p.under.0;
        above = let z = p.above in omega arith;
      }

  pub in_second : {μ : BinaryMark} {e f : Expr item} {n : ℕ} → Placed N g (pair μ e f) n
      → Placed N g f (n + 1 + size e)
  in_second {e} {f} {n} p =
      record {
        up = λ m. p.up (Memᴰ.tail (Memᴰ.append_right (expr_rules e (n + 1)) m));
        down = λ {r} m h l. ⊎_elim (λ k. let o = owned e (n + 1) r k in absurd (omega arith))
            (λ k. k)
            (Memᴰ.append_cases (expr_rules e (n + 1))
            (skip (λ z. omega arith) (p.down m (omega arith) (omega arith))));
        under = p.under.1;
        above = let z = p.above in omega arith;
      }

  pub in_this : {e : Expr made} {f : Expr alternatives} {n : ℕ} → Placed N g (or e f) n
      → Placed N g e n
  in_this {e} {f} {n} p =
      record {
        up = λ m. p.up (Memᴰ.append_left (expr_rules f (n + size e)) m);
        down =
            λ {r} m h l. ⊎_elim (λ k. k) (λ k. let o = owned f (n + size e) r k in
            absurd (omega arith))
            (Memᴰ.append_cases (expr_rules e n) (p.down m (omega arith) (omega arith)));
        under = p.under.0;
        above = p.above;
      }

  pub in_other : {e : Expr made} {f : Expr alternatives} {n : ℕ} → Placed N g (or e f) n
      → Placed N g f (n + size e)
  in_other {e} {f} {n} p =
      record {
        up = λ m. p.up (Memᴰ.append_right (expr_rules e n) m);
        down =
            λ {r} m h l. ⊎_elim (λ k. let o = owned e n r k in absurd (omega arith)) (λ k. k)
            (Memᴰ.append_cases (expr_rules e n) (p.down m (omega arith) (omega arith)));
        under = p.under.1;
        above = let z = p.above in omega arith;
      }
