-- The cells of a candidate's arrays from i on: what is promised of the cell at i and of those
-- behind it makes what is promised from i on.
use mathlib.Core.Path.{◌≡◌, refl, sym, ◌∙◌, ap, subst}
use Rattle.std.specs.Prelude.{Some, None}
use mathlib.Core.List.{List, [], ◌∷◌}
use Prim.Native.Nat.{ℕ, zero, suc, ◌+◌, ◌-◌, ◌≤◌, ◌<◌}
use native.Mathlib.Omega.{arith}
use native.Mathlib.Numerals.{add-one}
use native.Mathlib.Nat.{sub-zero}
use lib.ListN.{length, take}
use Rattle.grammar.specs.declared.Cell.{Cell}
use Rattle.grammar.specs.Candidates as Of
use Rattle.candidates.specs.declared.Candidate.{Candidate}
use Rattle.candidates.specs.declared.Stepped.{Stepped}
use Rattle.candidates.specs.Terminals.{Among, Lowest}
use Rattle.candidates.specs.Arrays.{cell_at, cells}
use Rattle.candidates.specs.Succession.{Shares, First, Follows, Ends, Succeeds}
use Rattle.candidates.specs.Windows.{Fits, Fit, LeastSpot, Room, NextCell, LastCell, Advances}
use Rattle.candidates.specs.Windows.{Least, Next, Last, largest_step_of, column_before_of, Changed}
use Rattle.candidates.specs.Windows.{Kept, Lowered, Filled, Raised, Raises}
use Rattle.candidates.proofs.CellOrder.{least_cell}
use Rattle.candidates.proofs.ListOrder.{fit_candidate, candidate_fit, least_nil, last_zero}
use Rattle.candidates.proofs.ListOrder.{least_cons, last_cons, next_tail, next_head}

pub room : (n i : ℕ) (c : Candidate) → 1 ≤ n → n ≤ 7
    → Room n (largest_step_of i) (column_before_of c i)
room n zero c h k = record { nonempty = h; few = k; next = λ l. absurd (omega arith) }
room n (suc i) c h k = record { nonempty = h; few = k; next = λ l. omega arith }

-- n - i at a turn
turn : (n i : ℕ) → i < n → n - i ≡ suc (n - (i + 1))
turn n i h = omega arith

-- the cells from i on
pub cells_turn : (n i : ℕ) (r : Candidate) → i < n
    → cells r i (n - i) ≡ cell_at r i ∷ cells r (i + 1) (n - (i + 1))
cells_turn n i r h = rw (turn n i h, add-one i)

pub cells_end : (n i : ℕ) (r : Candidate) → n ≤ i → cells r i (n - i) ≡ []
cells_end n i r h = let e : n - i ≡ 0 = omega arith in rw e

pub cells_size : (c : Candidate) (i j : ℕ) → length (cells c i j) ≡ j
cells_size c i zero = refl
cells_size c i (suc j) = ap suc (cells_size c (suc i) j)

-- the first b of n cells
pub take_cells : (c : Candidate) (i b n : ℕ) → b ≤ n → take b (cells c i n) ≡ cells c i b
take_cells c i zero n h = refl
take_cells c i (suc b) zero h = absurd (omega arith)
take_cells c i (suc b) (suc n) h =
    ap (λ (x : List Cell). cell_at c i ∷ x) (take_cells c (suc i) b n (omega arith))

step_turn : (i : ℕ) → largest_step_of (i + 1) ≡ 2
step_turn i = rw (add-one i)

column_turn : (c : Candidate) (i : ℕ) → column_before_of c (i + 1) ≡ (cell_at c i).column
column_turn c i = rw (add-one i)

-- ---- the least cells from i on

pub filled_end : (s n : ℕ) (c : Candidate) (i : ℕ) → n ≤ i → Filled s n c i c
filled_end s n c i h =
    let e : n - i ≡ 0 = omega arith in
    record {
      kept = λ j l. refl;
      least = rw e (least_nil (Among s) n (largest_step_of i) (column_before_of c i));
    }

-- what is filled behind the least cell at i is filled from i on
pub filled_turn : (s n : ℕ) (c : Candidate) (i : ℕ) (c' r : Candidate) → i < n → Lowered s n c i c'
    → Filled s n c' (i + 1) r → Filled s n c i r
filled_turn s n c i c' r h l f = record {
  kept = λ j k. f.kept j (omega arith) ∙ l.other j (λ e. omega arith);
  least =
      rw (cells_turn n i r h, turn n i h, f.kept i (omega arith))
      (least_cons (Among s) n (largest_step_of i) (column_before_of c i) (n - (i + 1))
      (cell_at c' i)
      (cells r (i + 1) (n - (i + 1))) l.least
      (rw (step_turn i, column_turn c' i) at f.least));
}

-- ---- as the code has it: with the results m and p of the calls at i

module _ (n : ℕ) (c : Candidate) (i m p : ℕ) (em : m ≡ largest_step_of i)
    (ep : p ≡ column_before_of c i) where
  pub room_at : 1 ≤ n → n ≤ 7 → Room n m p
  room_at h k = rw (em, ep) (room n i c h k)

  pub lowered_at : (s low k l : ℕ) (r : Candidate) → Lowest s low → LeastSpot n m p k l
      → Changed c i (record { terminal = low; step = k; column = l }) r → Lowered s n c i r
  lowered_at s low k l r lo sp ch =
      let q : LeastSpot n (largest_step_of i) (column_before_of c i) k l = rw (em, ep) at sp in
      record {
        least = rw ch.here (least_cell (Among s) n (largest_step_of i) (column_before_of c i) low
            k l lo.there lo.least q);
        other = ch.other;
      }

  module _ (d : Cell) (ed : d ≡ cell_at c i) where
    pub fits_at : (s : ℕ) → Fits (Among s) n (largest_step_of i) (column_before_of c i)
        (cell_at c i)
        → Fits (Among s) n m p d
    fits_at s f = rw (em, ep, ed) f

    pub last_at : (s : ℕ) → Advances s n m p d None → Raises s n c i None
    last_at s l = rw (em, ep, ed) at l

    pub raised_at : (s : ℕ) (e : Cell) (c' r : Candidate) → Advances s n m p d (Some e)
        → Changed c i e c' → Filled s n c' (i + 1) r
        → Raises s n c i (Some (record { upto = i + 1; to = r }))
    raised_at s e c' r x ch f =
        let y : NextCell (Among s) n (largest_step_of i) (column_before_of c i) (cell_at c i) e =
        rw (em, ep, ed) at x in
        let q : cell_at r i ≡ cell_at c' i = f.kept i (omega arith) in
        let l : Least (Among s) n 2 (cell_at c' i).column (n - (i + 1))
        (cells r (i + 1) (n - (i + 1))) = rw (step_turn i, column_turn c' i) at f.least in
        record {
          at = refl;
          kept = λ j k. f.kept j (omega arith) ∙ ch.other j (λ z. omega arith);
          next = rw (q ∙ ch.here) y;
          least = subst (λ (x : ℕ). Least (Among s) n 2 x (n - (i + 1))
              (cells r (i + 1) (n - (i + 1)))) (sym (ap (λ (x : Cell). x.column) q)) l;
        }

-- ---- what fits, follows and ends from i on

module _ (s n : ℕ) (c : Candidate) where
  -- c's cells from i on fit
  abbrev FitFrom : ℕ → Type 0
  FitFrom i = Fit (Among s) n (largest_step_of i) (column_before_of c i) (cells c i (n - i))

  -- r's cells from i on are the least after all that share c's up to b
  abbrev NextFrom : ℕ → ℕ → Candidate → Type 0
  NextFrom b i r =
      Next (Among s) n (largest_step_of i) (column_before_of c i) (b - i) (cells c i (n - i))
      (cells r i (n - i))

  -- none come after those
  abbrev pub LastFrom : ℕ → ℕ → Type 0
  LastFrom b i =
      Last (Among s) n (largest_step_of i) (column_before_of c i) (b - i) (cells c i (n - i))

  fit_turn : (i : ℕ) → i < n → FitFrom i
      → Fits (Among s) n (largest_step_of i) (column_before_of c i) (cell_at c i) × FitFrom (i + 1)
  fit_turn i h f =
      let g : Fits (Among s) n (largest_step_of i) (column_before_of c i) (cell_at c i)
      × Fit (Among s) n 2 (cell_at c i).column (cells c (i + 1) (n - (i + 1))) =
      rw (cells_turn n i c h) at f in (g.0, rw (step_turn i, column_turn c i) g.1)

  -- a candidate's cells fit from each on
  fit_from : Of.Candidate (Among s) n (cells c 0 n) → (i : ℕ) → i ≤ n → FitFrom i
  fit_from k zero h = rw (sub-zero n) (candidate_fit (Among s) n (cells c 0 n) k)
  fit_from k (suc i) h =
      rw (add-one i) at (fit_turn i (omega arith) (fit_from k i (omega arith))).1

  pub fits_here : Of.Candidate (Among s) n (cells c 0 n) → (i : ℕ) → i < n
      → Fits (Among s) n (largest_step_of i) (column_before_of c i) (cell_at c i)
  fits_here k i h = (fit_turn i h (fit_from k i (omega arith))).0

  pub last_start : (b : ℕ) → LastFrom b b
  last_start b = let e : b - b ≡ 0 = omega arith in
      rw e (last_zero (Among s) n (largest_step_of b) (column_before_of c b) (cells c b (n - b)))

  last_later : (b i : ℕ) → LastFrom b (i + 1)
      → Last (Among s) n 2 (cell_at c i).column (b - (i + 1)) (cells c (i + 1) (n - (i + 1)))
  last_later b i l = rw (step_turn i, column_turn c i) at l

  pub last_turn : (b i : ℕ) → i < n → i < b → LastFrom b (i + 1)
      → LastCell (Among s) n (largest_step_of i) (column_before_of c i) (cell_at c i) → LastFrom b i
  last_turn b i h hb l x = rw (cells_turn n i c h, turn b i hb)
      (last_cons (Among s) n (largest_step_of i) (column_before_of c i) (b - (i + 1)) (cell_at c i)
      _ x
      (last_later b i l))

  next_here : (b i upto : ℕ) (r : Candidate) → i < n → i < b → LastFrom b (i + 1)
      → Raised s n c i upto r → NextFrom b i r
  next_here b i upto r h hb l x =
      let y : Least (Among s) n 2 (cell_at r i).column (length (cells c (i + 1) (n - (i + 1))))
      (cells r (i + 1) (n - (i + 1))) = rw (cells_size c (i + 1) (n - (i + 1))) x.least in
      rw (cells_turn n i c h, cells_turn n i r h, turn b i hb)
      (next_head (Among s) n (largest_step_of i) (column_before_of c i) (b - (i + 1)) (cell_at c i)
      (cell_at r i) _ _ (last_later b i l) x.next y)

  -- where the cell at i is kept, what comes next behind it comes next from it on
  next_turn : (b i : ℕ) (r : Candidate) → i < n → i < b
      → Fits (Among s) n (largest_step_of i) (column_before_of c i) (cell_at c i)
      → cell_at r i ≡ cell_at c i
      → NextFrom b (i + 1) r → NextFrom b i r
  next_turn b i r h hb f q x =
      let y : Next (Among s) n 2 (cell_at c i).column (b - (i + 1)) (cells c (i + 1) (n - (i + 1)))
      (cells r (i + 1) (n - (i + 1))) = rw (step_turn i, column_turn c i) at x in
      rw (cells_turn n i c h, cells_turn n i r h, turn b i hb, q)
      (next_tail (Among s) n (largest_step_of i) (column_before_of c i) (b - (i + 1)) (cell_at c i)
      _ _ f
      y)

  next_whole : Of.Candidate (Among s) n (cells c 0 n) → (b i : ℕ) (r : Candidate) → i ≤ n → i ≤ b
      → Kept c i r → NextFrom b i r → NextFrom b 0 r
  next_whole k b zero r h hb q x = x
  next_whole k b (suc i) r h hb q x =
      next_whole k b i r (omega arith) (omega arith) (λ j l. q j (omega arith))
      (next_turn b i r (omega arith) (omega arith) (fits_here k i (omega arith)) (q i (omega arith))
      (rw (add-one i) x))

-- what is kept is shared
kept_cells : (c r : Candidate) (i j : ℕ) → Kept c (i + j) r → cells r i j ≡ cells c i j
kept_cells c r i zero k = refl
kept_cells c r i (suc j) k =
    let a : cell_at r i ≡ cell_at c i = k i (omega arith) in
    let b : cells r (suc i) j ≡ cells c (suc i) j =
    kept_cells c r (suc i) j (λ l h. k l (omega arith)) in
    cc

kept_shares : (c r : Candidate) (b n : ℕ) → b ≤ n → Kept c b r
    → Shares b (cells r 0 n) (cells c 0 n)
kept_shares c r b n h k = take_cells r 0 b n h ∙ kept_cells c r 0 b (λ j l. k j (omega arith))
    ∙ sym (take_cells c 0 b n h)

-- ---- whole candidates

pub filled_first : (s n : ℕ) (c r : Candidate) → Filled s n c 0 r → First s n (cells r 0 n)
filled_first s n c r f =
    let l : Least (Among s) n 0 0 n (cells r 0 n) = rw (sub-zero n) at f.least in
    record {
      candidate = fit_candidate (Among s) n (cells r 0 n) l.size l.fit;
      first = λ ds k b. l.least ds k.arranged.size (candidate_fit (Among s) n ds k) b;
    }

module _ (s n b : ℕ) (c : Candidate) (k : Of.Candidate (Among s) n (cells c 0 n)) where
  raised_follows : (i upto : ℕ) (r : Candidate) → i < b → b ≤ n → LastFrom s n c b (i + 1)
      → Raised s n c i upto r → Follows s n b (cells c 0 n) upto (cells r 0 n)
  raised_follows i upto r h hb l x =
      let y : Next (Among s) n 0 0 b (cells c 0 n) (cells r 0 n) = rw (sub-zero n, sub-zero b) at
      (next_whole s n c k b i r (omega arith) (omega arith) x.kept
      (next_here s n c b i upto r (omega arith) h l x)) in
      record {
        candidate = fit_candidate (Among s) n (cells r 0 n) (cells_size r 0 n) y.fit;
        later = λ ds d q. y.later ds (d.arranged.size ∙ sym (cells_size c 0 n)) q;
        least = λ ds d q. y.gapless ds (d.arranged.size ∙ sym (cells_size c 0 n))
            (candidate_fit (Among s) n ds d) q;
        low = omega (arith, x.at);
        high = omega (arith, x.at);
        kept = kept_shares c r (upto - 1) n (omega (arith, x.at))
            (λ j q. x.kept j (omega (arith, x.at)));
      }

  pub last_ends : LastFrom s n c b 0 → Ends s n b (cells c 0 n)
  last_ends l =
      let x : Last (Among s) n 0 0 b (cells c 0 n) = rw (sub-zero n, sub-zero b) at l in
      record {
        last = λ ds d. x.last ds (d.arranged.size ∙ sym (cells_size c 0 n))
            (candidate_fit (Among s) n ds d);
      }

  -- ---- as the loop has it, which comes from i to the cell before

  last_before : (i : ℕ) → 0 < i → LastFrom s n c b i → LastFrom s n c b ((i - 1) + 1)
  last_before i h l = let e : i ≡ (i - 1) + 1 = omega arith in subst (LastFrom s n c b) e l

  pub raises_follows : (i : ℕ) {r : Stepped} → 0 < i → i ≤ b → b ≤ n → LastFrom s n c b i
      → Raises s n c (i - 1) (Some r) → Succeeds s n b (cells c 0 n) (Some r)
  raises_follows i {r} h hi hb l x =
      raised_follows (i - 1) r.upto r.to (omega arith) hb (last_before i h l) x

  pub raises_last : (i : ℕ) → 0 < i → i ≤ b → b ≤ n → LastFrom s n c b i
      → Raises s n c (i - 1) None → LastFrom s n c b (i - 1)
  raises_last i h hi hb l x =
      last_turn s n c b (i - 1) (omega arith) (omega arith) (last_before i h l) x
