-- Laws of the rows shown: trees that differ only beneath closed rows are shown alike; with all
-- open, the rows are those of the tree.
use mathlib.Core.Path.{◌≡◌, refl, sym, ap, ◌∙◌}
use mathlib.Core.Bool.{Bool, true, false, cond, ◌&&◌}
use mathlib.Core.List.{[], ◌∷◌, ◌++◌}
use Prim.Native.Nat.{ℕ, zero, suc, ◌+◌, ◌*◌, ◌<◌}
use native.Mathlib.Omega.{arith}
use native.Mathlib.Decide.{ℕ_discrete}
use lib.ListN.{length, length-append}
use Rattle.sets.proofs.Says.{true_not_false}
use Rattle.grammar.specs.Layout.{Every}
use Rattle.grammar.specs.Trees.{Tree, empty, leaf, unary, binary, root, word, Rules, Valid}
use Rattle.grammar.specs.Trees.{valid_empty, valid_leaf, valid_unary, valid_binary}
use Rattle.grammar.specs.Content.{SmallRule}
use Rattle.grammar.proofs.Lists.{mem_every}
use Rattle.grammar.specs.Rows.{start_of, rows, row_count}
use Rattle.tree_view.specs.Shown.{View, closed_row, shown_rows, shown_count}
use Rattle.tree_view.specs.Members.{member}
use Rattle.tree_view.specs.Beneath.{OnlyBeneath, closed, same_empty, same_leaf, same_unary}
use Rattle.tree_view.specs.Beneath.{same_binary}

-- 1. a closed node

pub rows_closed : (sees : View) (i : ℕ) (t : Tree) → sees (root t) ≡ false
    → shown_rows sees i t ≡ closed_row i t
rows_closed sees i (empty A) e = rw e
rows_closed sees i (leaf A t) e = rw e
rows_closed sees i (unary A t) e = rw e
rows_closed sees i (binary A s t) e = rw e

-- 2. trees that differ only beneath closed rows are shown alike

module _ (sees : View) where
  pub beneath_word : {t u : Tree} → OnlyBeneath sees t u → word t ≡ word u
  beneath_word (closed c e f) = f
  beneath_word same_empty = refl
  beneath_word same_leaf = refl
  beneath_word (same_unary a) = beneath_word a
  beneath_word (same_binary a b) = rw (beneath_word a, beneath_word b)

  closed_same : (i : ℕ) (t u : Tree) → root t ≡ root u → word t ≡ word u
      → closed_row i t ≡ closed_row i u
  closed_same i t u e f = rw (e, f)

  pub shown_alike : (i : ℕ) {t u : Tree} → OnlyBeneath sees t u
      → shown_rows sees i t ≡ shown_rows sees i u
  shown_alike i (closed {t = t} {u = u} c e f) =
      rows_closed sees i t c ∙ closed_same i t u e f ∙ sym
      (rows_closed sees i u (ap sees (sym e) ∙ c))
  shown_alike i same_empty = refl
  shown_alike i same_leaf = refl
  shown_alike i (same_unary {A = A} {t = t} {u = u} a) = rw (beneath_word a, shown_alike i a)
  shown_alike i (same_binary {A = A} {s = s} {t = t} {u = u} {v = v} a b) =
      rw (beneath_word a, beneath_word b, shown_alike i a, shown_alike (i + length (word u)) b)

-- 3. with every nonterminal open the rows are those of the tree

-- every node of the tree may be seen
abbrev pub Seen : View → Tree → Type 0
Seen sees (empty A) = sees A ≡ true
Seen sees (leaf A t) = sees A ≡ true
Seen sees (unary A t) = (sees A ≡ true) × Seen sees t
Seen sees (binary A s t) = (sees A ≡ true) × (Seen sees s × Seen sees t)

module _ (sees : View) where
  pub rows_open : (i : ℕ) (t : Tree) → Seen sees t → shown_rows sees i t ≡ rows i t
  rows_open i (empty A) h = rw h
  rows_open i (leaf A t) h = rw h
  rows_open i (unary A t) h = rw (h.0, rows_open i t h.1)
  rows_open i (binary A s t) h =
      rw (h.0, rows_open i s h.1.0, rows_open (i + length (word s)) t h.1.1)

  pub count_open : (t : Tree) → Seen sees t → shown_count sees t ≡ row_count t
  count_open (empty A) h = refl
  count_open (leaf A t) h = refl
  count_open (unary A t) h = rw (h.0, count_open t h.1)
  count_open (binary A s t) h = rw (h.0, count_open s h.1.0, count_open t h.1.1)

  -- so it is if all may be seen
  pub seen_all : ((A : ℕ) → sees A ≡ true) → (t : Tree) → Seen sees t
  seen_all f (empty A) = f A
  seen_all f (leaf A t) = f A
  seen_all f (unary A t) = (f A, seen_all f t)
  seen_all f (binary A s t) = (f A, (seen_all f s, seen_all f t))

  -- and of valid trees if all numbers below 64 may
  pub seen_valid : ((A : ℕ) → A < 64 → sees A ≡ true) → (g : Rules) → Every SmallRule g → {t : Tree}
      → Valid g t → Seen sees t
  seen_valid f g s (valid_empty {A = A} m) = f A (mem_every SmallRule g s m).left
  seen_valid f g s (valid_leaf {A = A} m) = f A (mem_every SmallRule g s m.rule).left
  seen_valid f g s (valid_unary {A = A} k m y v) =
      (f A (mem_every SmallRule g s m).left, seen_valid f g s v)
  seen_valid f g s (valid_binary {A = A} k m y u v) =
      (f A (mem_every SmallRule g s m).left, (seen_valid f g s u, seen_valid f g s v))

-- the set of all numbers below 64
abbrev below : ℕ → (ℕ → Bool) → Bool
below zero f = true
below (suc n) f = f n && below n f

below_all : (n : ℕ) (f : ℕ → Bool) → below n f ≡ true → (A : ℕ) → A < n → f A ≡ true
below_all zero f e A h = absurd (omega arith)
below_all (suc n) f e A h = go (λ k. below_all n f k A) (f n) refl e (ℕ_discrete A n)
  where
    go : (below n f ≡ true → A < n → f A ≡ true) → (b : Bool) → f n ≡ b → b && below n f ≡ true
        → Dec (A ≡ n) → f A ≡ true
    go again true k e (yes j) = ap f j ∙ k
    go again true k e (no j) = again e (omega arith)
    go again false k e d = absurd (true_not_false (sym e))

pub all_members : (A : ℕ) → A < 64 → member 18446744073709551615 A ≡ true
all_members = below_all 64 (member 18446744073709551615) refl

-- 4. four bytes a row

pub length_shown : (sees : View) (t : Tree) (i : ℕ)
    → length (shown_rows sees i t) ≡ 4 * shown_count sees t
length_shown sees (empty A) i = go (sees A)
  where
    go : (b : Bool) → length (cond b (A ∷ 0 ∷ 0 ∷ 0 ∷ []) (closed_row i (empty A))) ≡ 4
    go true = refl
    go false = refl
length_shown sees (leaf A t) i = go (sees A)
  where
    go : (b : Bool) → length (cond b (A ∷ 1 ∷ i ∷ 1 ∷ []) (closed_row i (leaf A t))) ≡ 4
    go true = refl
    go false = refl
length_shown sees (unary A t) i = go (sees A) (length_shown sees t i)
  where
    go : (b : Bool) → length (shown_rows sees i t) ≡ 4 * shown_count sees t
        → length (cond b (A ∷ 2 ∷ start_of i (length (word t)) ∷ length (word t)
        ∷ shown_rows sees i t) (closed_row i (unary A t)))
        ≡ 4 * cond b (suc (shown_count sees t)) 1
    go true h = omega arith
    go false h = refl
length_shown sees (binary A s t) i =
    go (sees A) (length_shown sees s i) (length_shown sees t (i + length (word s)))
  where
    go : (b : Bool) → length (shown_rows sees i s) ≡ 4 * shown_count sees s
        → length (shown_rows sees (i + length (word s)) t) ≡ 4 * shown_count sees t
        → length (cond b (A ∷ 3 ∷ start_of i (length (word s ++ word t)) ∷ length (word s ++ word t)
        ∷ (shown_rows sees i s ++ shown_rows sees (i + length (word s)) t))
        (closed_row i (binary A s t))) ≡ 4 * cond b
        (suc (shown_count sees s + shown_count sees t)) 1
    go true h k =
        omega (arith, length-append (shown_rows sees i s) (shown_rows sees (i + length (word s)) t))
    go false h k = refl

pub some_shown : (sees : View) (t : Tree) → 0 < shown_count sees t
some_shown sees (empty A) = omega arith
some_shown sees (leaf A t) = omega arith
some_shown sees (unary A t) = go (sees A)
  where
    go : (b : Bool) → 0 < cond b (suc (shown_count sees t)) 1
    go true = omega arith
    go false = omega arith
some_shown sees (binary A s t) = go (sees A)
  where
    go : (b : Bool) → 0 < cond b (suc (shown_count sees s + shown_count sees t)) 1
    go true = omega arith
    go false = omega arith
