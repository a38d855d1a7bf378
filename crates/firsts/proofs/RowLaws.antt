-- Tables of sets, one set more at a time; and from the sets by terminal to those by nonterminal.
use mathlib.Core.Path.{◌≡◌, sym, subst}
use mathlib.Core.Logic.{⊎_elim}
use mathlib.Core.List.{List}
use Prim.Native.Nat.{ℕ, ◌+◌, ◌<◌}
use native.Mathlib.Omega.{arith}
use native.Mathlib.Decide.{ℕ_discrete}
use lib.ListN.{length, get_or, set}
use lib.Seq.{get_or-set_same, get_or-set_other}
use Rattle.sets.specs.Sets.{In}
use Rattle.sets.specs.Insertion.{insert}
use Rattle.sets.proofs.Sets.{in_zero, insert_same, insert_keeps, insert_only}
use Rattle.grammar.specs.declared.Grammar.{Grammar}
use Rattle.grammar.specs.Content.{rules_of, SmallRule, Formed}
use Rattle.grammar.specs.Trees.{Rules}
use Rattle.grammar.proofs.Lists.{mem_every}
use Rattle.acyclic.specs.Exact.{Exactly}
use Rattle.pairs.specs.Survey.{CanBegin, with_atom, with_unary, with_first, with_second}
use Rattle.firsts.specs.Rows.{ByTerminal, ByNonterminal, RowOf, TakesRows}

-- P holds of the first k + 1 words, if v, which has it, is the word at k
one_more : (P : ℕ → ℕ → Type 0) (t : List ℕ) (k v : ℕ) → k < length t
    → ((x : ℕ) → x < k → P x (get_or t x 0)) → P k v
    → (x : ℕ) → x < k + 1 → P x (get_or (set t k v) x 0)
one_more P t k v h f p x l = go (ℕ_discrete x k)
  where
    go : Dec (x ≡ k) → P x (get_or (set t k v) x 0)
    go (yes e) = rw (e, get_or-set_same t k v 0 h) p
    go (no n) = rw (get_or-set_other t k x v 0 n) (f x (omega (arith, l, n)))

pub columns_more : {g : Rules} {k v : ℕ} {t : List ℕ} → k < length t → ByTerminal g k t
    → Exactly v (λ A. CanBegin g A k) → ByTerminal g (k + 1) (set t k v)
columns_more {g} {k} {v} {t} h x y =
    record { each = one_more (λ x s. Exactly s (λ A. CanBegin g A x)) t k v h x.each y }

pub rows_more : {k v : ℕ} {t u : List ℕ} → k < length u → TakesRows t k u → RowOf t k 64 v
    → TakesRows t (k + 1) (set u k v)
rows_more {k} {v} {t} {u} h x y =
    record { each = one_more (λ A s. RowOf t A 64 s) u k v h x.each y }

-- ---- one row

module _ {t : List ℕ} {A : ℕ} where
  pub row_none : RowOf t A 0 0
  row_none =
      record {
        below = λ x i. absurd (in_zero x i);
        is = λ x i. absurd (in_zero x i);
        all = λ x l i. absurd (omega (arith, l));
      }

  pub row_skip : {k r : ℕ} → RowOf t A k r → (In (get_or t k 0) A → ⊥) → RowOf t A (k + 1) r
  row_skip {k} {r} x n =
      record { below = λ y i. omega (arith, x.below y i); is = x.is; all = all }
    where
      all : (y : ℕ) → y < k + 1 → In (get_or t y 0) A → In r y
      all y l i = go (ℕ_discrete y k)
        where
          go : Dec (y ≡ k) → In r y
          go (yes e) = absurd (n (subst (λ (z : ℕ). In (get_or t z 0) A) e i))
          go (no m) = x.all y (omega (arith, l, m)) i

  pub row_with : {k r : ℕ} → RowOf t A k r → In (get_or t k 0) A → RowOf t A (k + 1) (insert r k)
  row_with {k} {r} x h =
      record {
        below =
            λ y i. ⊎_elim (λ j. omega (arith, x.below y j)) (λ e. omega (arith, e))
            (insert_only r k y i);
        is =
            λ y i. ⊎_elim (x.is y) (λ e. subst (λ (z : ℕ). In (get_or t z 0) A) (sym e) h)
            (insert_only r k y i);
        all = all;
      }
    where
      all : (y : ℕ) → y < k + 1 → In (get_or t y 0) A → In (insert r k) y
      all y l i = go (ℕ_discrete y k)
        where
          go : Dec (y ≡ k) → In (insert r k) y
          go (yes e) = rw e (insert_same r k)
          go (no m) = insert_keeps r k (x.all y (omega (arith, l, m)) i)

-- ---- terminals are below 64

terminal_small : {g : Grammar} → Formed g → {A x : ℕ} → CanBegin (rules_of g) A x → x < 64
terminal_small {g} f (with_atom a) =
    let s = mem_every SmallRule (rules_of g) f.small a.rule in
    omega (arith, s.clause.1, a.covers.high)
terminal_small f (with_unary k m h) = terminal_small f h
terminal_small f (with_first k m h w) = terminal_small f h
terminal_small f (with_second k m n h) = terminal_small f h

pub rows_exact : {g : Grammar} {t u : List ℕ} → Formed g → ByTerminal (rules_of g) 64 t
    → TakesRows t 64 u → ByNonterminal (rules_of g) 64 u
rows_exact {g} {t} {u} f c r = record { each = each }
  where
    each : (A : ℕ) → A < 64 → Exactly (get_or u A 0) (CanBegin (rules_of g) A)
    each A l =
        let w = r.each A l in
        record {
          is = λ x i. (c.each x (w.below x i)).is A (w.is x i);
          all = λ x b. let s = terminal_small f b in w.all x s ((c.each x s).all A b);
        }
