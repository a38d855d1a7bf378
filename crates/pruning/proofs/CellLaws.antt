-- A candidate with one cell changed, as lists of cells.
use mathlib.Core.Path.{◌≡◌, refl, sym, ap, ◌∙◌, subst}
use mathlib.Core.List.{List, [], ◌∷◌}
use mathlib.Core.Logic.{◌≢◌}
use Prim.Native.Nat.{ℕ, zero, suc, ◌+◌, ◌/◌, ◌%◌, ◌≤◌, ◌<◌}
use native.Mathlib.Omega.{arith}
use native.Mathlib.Nat.{not-suc-le-zero}
use native.Mathlib.Decide.{ℕ_discrete, dec_lt}
use lib.ListN.{length, get_or, take}
use Rattle.grammar.specs.declared.Cell.{Cell}
use Rattle.grammar.specs.Candidates.{Cells}
use Rattle.candidates.specs.declared.Candidate.{Candidate}
use Rattle.candidates.specs.Arrays.{no_cell, cell_at, cells}
use Rattle.candidates.specs.Spelling.{LowSteps}
use Rattle.candidates.specs.Windows.{Changed, column_before_of}
use Rattle.candidates.proofs.Windows.{cells_size, take_cells}
use Rattle.pruning.specs.Refuting.{terminal_at_of, TerminalChanged, Moved, prior, most}

-- the cell at i of the list
cells_from : (c : Candidate) (a n i : ℕ) → i < n
    → get_or (cells c a n) i no_cell ≡ cell_at c (a + i)
cells_from c a zero i h = absurd (not-suc-le-zero h)
cells_from c a (suc n) zero h = ap (cell_at c) (let z : a ≡ a + 0 = omega arith in z)
cells_from c a (suc n) (suc i) h = cells_from c (suc a) n i (omega arith)
    ∙ ap (cell_at c) (let z : suc a + i ≡ a + suc i = omega arith in z)

pub cells_get : (c : Candidate) (n i : ℕ) → i < n → get_or (cells c 0 n) i no_cell ≡ cell_at c i
cells_get c n i h = cells_from c 0 n i h ∙ ap (cell_at c) (let z : 0 + i ≡ i = omega arith in z)

-- past the end there is none
cells_over : (c : Candidate) (a n i : ℕ) → n ≤ i → get_or (cells c a n) i no_cell ≡ no_cell
cells_over c a zero i h = refl
cells_over c a (suc n) zero h = absurd (omega arith)
cells_over c a (suc n) (suc i) h = cells_over c (suc a) n i (omega arith)

-- cells that are the same one by one are the same list
cells_same : (c r : Candidate) (a n : ℕ) → ((j : ℕ) → a ≤ j → j < a + n → cell_at r j ≡ cell_at c j)
    → cells r a n ≡ cells c a n
cells_same c r a zero f = refl
cells_same c r a (suc n) f =
    let h : cell_at r a ≡ cell_at c a = f a (omega arith) (omega arith) in
    let t : cells r (suc a) n ≡ cells c (suc a) n =
    cells_same c r (suc a) n (λ j x y. f j (omega arith) (omega arith)) in
    cc

low_from : (c r : Candidate) (a n i : ℕ) (d : Cell) → Changed c i d r → d.step ≤ 2
    → LowSteps (cells c a n) → LowSteps (cells r a n)
low_from c r a zero i d ch l s = tt
low_from c r a (suc n) i d ch l s = (go (ℕ_discrete a i), low_from c r (suc a) n i d ch l s.1)
  where
    go : Dec (a ≡ i) → (cell_at r a).step ≤ 2
    go (yes e) = subst (λ (x : Cell). x.step ≤ 2) (sym (ap (cell_at r) e ∙ ch.here)) l
    go (no e) = subst (λ (x : Cell). x.step ≤ 2) (sym (ch.other a e)) s.0

pub low_changed : (c r : Candidate) (n i : ℕ) (d : Cell) → Changed c i d r → d.step ≤ 2
    → LowSteps (cells c 0 n) → LowSteps (cells r 0 n)
low_changed c r n i d = low_from c r 0 n i d

module _ (c r : Candidate) (n i : ℕ) (d : Cell) (h : i < n) (ch : Changed c i d r) where
  pub changed_size : length (cells r 0 n) ≡ length (cells c 0 n)
  changed_size = cells_size r 0 n ∙ sym (cells_size c 0 n)

  pub changed_kept : (b : ℕ) → b ≤ i → take b (cells r 0 n) ≡ take b (cells c 0 n)
  changed_kept b l = take_cells r 0 b n (omega arith) ∙ cells_same c r 0 b
      (λ j x y. ch.other j (λ e. omega arith)) ∙ sym (take_cells c 0 b n (omega arith))

  pub changed_here : get_or (cells r 0 n) i no_cell ≡ d
  changed_here = cells_get r n i h ∙ ch.here

  pub changed_rest : (q : ℕ) → q ≢ i
      → get_or (cells r 0 n) q no_cell ≡ get_or (cells c 0 n) q no_cell
  changed_rest q e = go (dec_lt q n)
    where
      go : Dec (q < n) → get_or (cells r 0 n) q no_cell ≡ get_or (cells c 0 n) q no_cell
      go (yes l) = cells_get r n q l ∙ ch.other q e ∙ sym (cells_get c n q l)
      go (no l) = cells_over r 0 n q (omega arith) ∙ sym (cells_over c 0 n q (omega arith))

  -- a position
  pub moved_of : (k : ℕ) → d.terminal ≡ (cell_at c i).terminal → d.step ≡ k / n
      → d.column ≡ k % n + 1 → Moved n i k (cells c 0 n) (cells r 0 n)
  moved_of k t s u = record {
    size = changed_size;
    kept = changed_kept;
    step = ap (λ (x : Cell). x.step) changed_here ∙ s;
    column = ap (λ (x : Cell). x.column) changed_here ∙ u;
    terminals = λ q. go q (ℕ_discrete q i);
  }
    where
      go : (q : ℕ) → Dec (q ≡ i) → terminal_at_of (cells r 0 n) q ≡ terminal_at_of (cells c 0 n) q
      go q (yes e) = rw e (ap (λ (x : Cell). x.terminal) changed_here ∙ t
          ∙ ap (λ (x : Cell). x.terminal) (sym (cells_get c n i h)))
      go q (no e) = ap (λ (x : Cell). x.terminal) (changed_rest q e)

  -- a terminal
  pub with_terminal_of : TerminalChanged i d.terminal (cells c 0 n) (cells r 0 n)
  with_terminal_of = record {
    size = changed_size;
    kept = changed_kept;
    terminal = ap
        (λ (x : Cell). x.terminal) changed_here;
    rest = λ q l. ap (λ (x : Cell). x.terminal) (changed_rest q (λ e. omega arith));
  }

-- the column before, in the array and in the list
prior_from : (c : Candidate) (p a n i : ℕ) → i < n
    → prior p (cells c a n) (suc i) ≡ (cell_at c (a + i)).column
prior_from c p a zero i h = absurd (not-suc-le-zero h)
prior_from c p a (suc n) zero h =
    ap (λ (x : ℕ). (cell_at c x).column) (let z : a ≡ a + 0 = omega arith in z)
prior_from c p a (suc n) (suc i) h = prior_from c (cell_at c a).column (suc a) n i (omega arith)
    ∙ ap (λ (x : ℕ). (cell_at c x).column) (let z : suc a + i ≡ a + suc i = omega arith in z)

pub prior_before : (c : Candidate) (n i : ℕ) → i < n
    → prior 0 (cells c 0 n) i ≡ column_before_of c i
prior_before c n zero h = refl
prior_before c n (suc i) h = prior_from c 0 0 n i (omega arith)
    ∙ ap (λ (x : ℕ). (cell_at c x).column) (let z : 0 + i ≡ i = omega arith in z)

-- the first token has no step
pub first_step : {i x : ℕ} → i ≡ 0 → x ≤ most 0 i → x ≡ 0
first_step {i} {x} e h = let k : x ≤ most 0 0 = subst (λ (y : ℕ). x ≤ most 0 y) e h in omega arith

-- each step is low
low_at : (c : Candidate) (a n j : ℕ) → j < n → LowSteps (cells c a n) → (cell_at c (a + j)).step ≤ 2
low_at c a zero j h l = absurd (not-suc-le-zero h)
low_at c a (suc n) zero h l =
    subst (λ (x : ℕ). (cell_at c x).step ≤ 2) (let z : a ≡ a + 0 = omega arith in z) l.0
low_at c a (suc n) (suc j) h l = subst (λ (x : ℕ). (cell_at c x).step ≤ 2)
    (let z : suc a + j ≡ a + suc j = omega arith in z) (low_at c (suc a) n j (omega arith) l.1)

pub step_at : (c : Candidate) (n j : ℕ) → j < n → LowSteps (cells c 0 n) → (cell_at c j).step ≤ 2
step_at c n j h l = subst (λ (x : ℕ). (cell_at c x).step ≤ 2) (let z : 0 + j ≡ j = omega arith in z)
    (low_at c 0 n j h l)

-- the terminals of cells
pub cells_terminal : (Q : ℕ → Type 0) (n m : ℕ) (cs : List Cell) → Cells Q n m cs → (i : ℕ)
    → i < length cs → Q (terminal_at_of cs i)
cells_terminal Q n m [] k i h = absurd (not-suc-le-zero h)
cells_terminal Q n m (c ∷ cs) k zero h = k.0.terminal
cells_terminal Q n m (c ∷ cs) k (suc i) h = cells_terminal Q n 2 cs k.1 i (omega arith)
