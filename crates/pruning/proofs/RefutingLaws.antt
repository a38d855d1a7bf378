-- Refuting a block: by terminals, by positions, and what it comes to.
use mathlib.Core.Path.{◌≡◌, refl, sym, ap, ◌∙◌, subst, subst₂}
use mathlib.Core.List.{List, [], ◌∷◌, ◌++◌}
use mathlib.Core.Logic.{◌⊎◌, inl, inr, ⊎_elim}
use Prim.Native.Nat.{ℕ, zero, suc, ◌+◌, ◌-◌, ◌*◌, ◌/◌, ◌%◌, ◌≤◌, ◌<◌}
use native.Mathlib.Omega.{arith}
use native.Mathlib.Decide.{dec_lt, ℕ_discrete}
use native.Mathlib.Nat.{not-suc-le-zero, mul-le-mul_right}
use lib.ListN.{length, get_or, take}
use lib.Seq.{get_or-take, take-suc}
use lib.Arith.{digits_div, digits_mod}
use native.Mathlib.Numerals.{add-one}
use Rattle.sets.specs.Sets.{In}
use Rattle.grammar.specs.declared.Cell.{Cell}
use Rattle.grammar.specs.Layout.{Word}
use Rattle.grammar.specs.Trees.{Rules, TwoTrees}
use Rattle.grammar.specs.Candidates.{Candidate, placed, sentence}
use Rattle.grammar.proofs.SweepLaws.{sentence_length}
use Rattle.marks.specs.Half.{token_at}
use Rattle.chart.specs.Sheets.{Meets, Hopeless}
use Rattle.candidates.specs.Terminals.{Among}
use Rattle.candidates.specs.Succession.{Shares}
use Rattle.equivalents.specs.Twins.{Twin, Replaceable, TerminalAt, Renames, Slack}
use Rattle.equivalents.proofs.Lowered.{shares_less, twin_less}
use Rattle.candidates.specs.Windows.{Fits, Fit}
use Rattle.candidates.proofs.ListOrder.{candidate_fit}
use Rattle.candidates.proofs.Spelling.{sentence_shares}
use Rattle.chart.specs.Leaves.{LeafAt, May}
use Rattle.candidates.specs.Arrays.{no_cell}
use Rattle.pruning.specs.Refuting.{terminal_at_of, Spelt, Twinned, TerminalChanged}
use Rattle.pruning.specs.Refuting.{TerminalsTwinned, Moved}
use Rattle.pruning.specs.Refuting.{PositionsTwinned, prior, most, Rises}
use Rattle.chart.proofs.LeafLaws.{leaf_allows}
use Rattle.pruning.proofs.CellLaws.{cells_terminal}
use Rattle.grammar.specs.Sentences.{no_token}

-- ---- what it comes to

-- no terminal is fixed
pub twinned_all : {g : Rules} {s n h b : ℕ} {cs : List Cell} → Twinned g s n h b n cs
    → Replaceable g s n b h cs
twinned_all t = record {
  twin = λ ds c sh two. t.twin ds c sh
      (record { same = λ i l u. absurd (omega arith) }) two;
}

-- all terminals are kept
pub renames_all : (g : Rules) (s : ℕ) → Renames g s s
renames_all g s = record { part = λ x m. m; twin = λ n q x ds c m out t d. absurd (out m) }

-- ---- the sentences of a block meet its half-known word

pub placed_terminal : (l : ℕ) (cs : List Cell) (i : ℕ) → i < length cs
    → (token_at (placed l cs) i).terminal ≡ terminal_at_of cs i
placed_terminal l [] i h = absurd (not-suc-le-zero h)
placed_terminal l (c ∷ cs) zero h = refl
placed_terminal l (c ∷ cs) (suc i) h = placed_terminal (l + c.step) cs i (omega arith)

module _ {g : Rules} {s n b j : ℕ} {cs : List Cell} {ws : List ℕ} {w : Word} (e : w ≡ sentence cs)
    (size : length cs ≡ n) where
  meets : (fixed : (i : ℕ) → b ≤ i → j ≤ i → i < n → LeafAt g n ws i (terminal_at_of cs i))
      (free : (i : ℕ) → b ≤ i → i < j → (x : ℕ) → Among s x → May g n ws i x)
      → (ds : List Cell) → Candidate (Among s) n ds → Shares b ds cs → Spelt n j ds cs
      → Meets g (record { word = w; known = b }) n ws (sentence ds)
  meets fixed free ds c sh sp = record {
    completes = record {
      long = sentence_length 1 ds ∙ c.arranged.size ∙ sym size ∙ sym (sentence_length 1 cs)
          ∙ ap length (sym e);
      same = λ i h.
          sym (get_or-take b (sentence ds) i no_token h) ∙ ap (λ (v : Word). token_at v i)
          (sentence_shares b ds cs sh)
          ∙ get_or-take b (sentence cs) i no_token h ∙ ap (λ (v : Word). token_at v i) (sym e);
    };
    allows = λ i h l.
        let u : i < length ds = omega (arith, sentence_length 1 ds) in
        let v : i < n = omega (arith, c.arranged.size) in
        subst (May g n ws i) (sym (placed_terminal 1 ds i u)) (go i h v u (dec_lt i j));
  }
    where
      go : (i : ℕ) → b ≤ i → i < n → i < length ds → Dec (i < j)
          → May g n ws i (terminal_at_of ds i)
      go i h v u (yes q) =
          free i h q (terminal_at_of ds i) (cells_terminal (Among s) n 0 ds c.arranged.cells i u)
      go i h v u (no q) = subst (May g n ws i) (sym (sp.same i (omega arith) v))
          (leaf_allows (fixed i h (omega arith) v))

  -- where no such sentence has two trees, the block is refuted
  pub refuted_hopeless : {h : ℕ} → Hopeless g (record { word = w; known = b }) n ws
      → ((i : ℕ) → b ≤ i → j ≤ i → i < n → LeafAt g n ws i (terminal_at_of cs i))
      → ((i : ℕ) → b ≤ i → i < j → (x : ℕ) → Among s x → May g n ws i x)
      → Twinned g s n h b j cs
  refuted_hopeless hp fixed free = record
      { twin = λ ds c sh sp t. absurd (hp.absent (sentence ds) (meets fixed free ds c sh sp) t) }

-- ---- by terminals

last_or : (m x : ℕ) → x < m + 1 → (x < m) ⊎ (x ≡ m)
last_or m x h = go (dec_lt x m)
  where
    go : Dec (x < m) → (x < m) ⊎ (x ≡ m)
    go (yes l) = inl l
    go (no l) = inr (omega arith)

-- the cell at j has the terminal
terminal_at : (ds : List Cell) (j m : ℕ) → j < length ds → terminal_at_of ds j ≡ m
    → TerminalAt m j ds
terminal_at [] j m l e = absurd (not-suc-le-zero l)
terminal_at (d ∷ ds) zero m l e = e
terminal_at (d ∷ ds) (suc j) m l e = terminal_at ds j m (omega arith) e

module _ {g : Rules} {s n h b j : ℕ} {cs : List Cell} where
  pub below_none : TerminalsTwinned g s n h b j 0 cs
  below_none = record { twin = λ ds c sh sp l. absurd (not-suc-le-zero l) }

  -- a terminal that is not kept: it is not in the set, or a smaller one replaces it
  pub below_skip : {m kept : ℕ} → Renames g s kept → h ≤ j → j < n → (In kept m → ⊥)
      → TerminalsTwinned g s n h b j m cs → TerminalsTwinned g s n h b j (m + 1) cs
  below_skip {m} {kept} r low lt out q = record {
    twin = λ ds c sh sp l t. ⊎_elim (λ y. q.twin ds c sh sp y t)
        (λ y.
        let k : j < length ds = omega (arith, c.arranged.size) in
        let a : Among s m =
        subst (Among s) y (cells_terminal (Among s) n 0 ds c.arranged.cells j k) in
        twin_less h low (r.twin n j m ds c a (λ i. out i.1) (terminal_at ds j m k y) t))
        (last_or m (terminal_at_of ds j) l);
  }

  -- one that was tried
  pub below_more : {m : ℕ} {cs' : List Cell} → b ≤ j → TerminalChanged j m cs cs'
      → Twinned g s n h b j cs'
      → TerminalsTwinned g s n h b j m cs → TerminalsTwinned g s n h b j (m + 1) cs
  below_more {m} {cs'} low t r q = record {
    twin = λ ds c sh sp l u. ⊎_elim (λ y. q.twin ds c sh sp y u)
        (λ y. r.twin ds c (sh ∙ sym (t.kept b low))
        (record { same = λ i a v. spelt ds sp y i a v (ℕ_discrete i j) }) u)
        (last_or m (terminal_at_of ds j) l);
  }
    where
      spelt : (ds : List Cell) → Spelt n (j + 1) ds cs → terminal_at_of ds j ≡ m → (i : ℕ) → j ≤ i
          → i < n → Dec (i ≡ j) → terminal_at_of ds i ≡ terminal_at_of cs' i
      spelt ds sp y i a v (yes z) = rw z (y ∙ sym t.terminal)
      spelt ds sp y i a v (no z) = sp.same i (omega arith) v ∙ sym (t.rest i (omega arith))

  -- all
  pub below_all : j < n → TerminalsTwinned g s n h b j 64 cs → Twinned g s n h b (j + 1) cs
  below_all lt q = record {
    twin = λ ds c sh sp t. q.twin ds c sh sp
        (cells_terminal (Among s) n 0 ds c.arranged.cells j (omega (arith, c.arranged.size))
        ).0 t;
  }

-- ---- by positions

most_two : (i : ℕ) → most 2 i ≡ 2
most_two zero = refl
most_two (suc i) = refl

fit_at : (Q : ℕ → Type 0) (n m p : ℕ) (cs : List Cell) (i : ℕ) → Fit Q n m p cs → i < length cs
    → Fits Q n (most m i) (prior p cs i) (get_or cs i no_cell)
fit_at Q n m p [] i f h = absurd (not-suc-le-zero h)
fit_at Q n m p (c ∷ cs) zero f h = f.0
fit_at Q n m p (c ∷ cs) (suc i) f h = subst
    (λ (k : ℕ). Fits Q n k (prior c.column cs i) (get_or cs i no_cell)) (most_two i)
    (fit_at Q n 2 c.column cs i f.1 (omega arith))

prior_shares : (i p : ℕ) (ds cs : List Cell) → length ds ≡ length cs → take i ds ≡ take i cs
    → prior p ds i ≡ prior p cs i
prior_shares zero p ds cs n e = refl
prior_shares (suc i) p [] [] n e = refl
prior_shares (suc i) p [] (c ∷ cs) n e = absurd (omega arith)
prior_shares (suc i) p (d ∷ ds) [] n e = absurd (omega arith)
prior_shares (suc i) p (d ∷ ds) (c ∷ cs) n e =
    let h : d ≡ c = cc in
    let t : take i ds ≡ take i cs = cc in
    ap (λ (x : Cell). prior x.column ds i) h ∙ prior_shares i c.column ds cs (omega arith) t

-- the cells before b are the same
shares_at : (b i : ℕ) (ds cs : List Cell) → i < b → Shares b ds cs
    → get_or ds i no_cell ≡ get_or cs i no_cell
shares_at b i ds cs h e = sym (get_or-take b ds i no_cell h)
    ∙ ap (λ (x : List Cell). get_or x i no_cell) e ∙ get_or-take b cs i no_cell h

-- a cell more
shares_more : (i : ℕ) (ds cs : List Cell) → i < length ds → i < length cs → Shares i ds cs
    → get_or ds i no_cell ≡ get_or cs i no_cell → Shares (i + 1) ds cs
shares_more i ds cs h k e q = rw (add-one i)
    (take-suc ds i no_cell h ∙ ap (λ (x : List Cell). x ++ (get_or ds i no_cell ∷ [])) e
    ∙ ap (λ (x : Cell). take i cs ++ (x ∷ [])) q ∙ sym (take-suc cs i no_cell k))

module _ {g : Rules} {s n h i : ℕ} {cs : List Cell} (size : length cs ≡ n) (lt : i < n) where
  -- a cell that reads like an earlier one
  pub refuted_earlier_twin : Slack n (i + 1) h cs → Twinned g s n h (i + 1) (i + 1) cs
  refuted_earlier_twin st = record { twin = λ ds c sh sp t. (st.replaceable g s).twin ds c sh t }

  -- one that does not come after the one before
  pub refuted_falling : (Rises cs i → ⊥) → Twinned g s n h (i + 1) (i + 1) cs
  refuted_falling out = record {
    twin = λ ds c sh sp t.
        let f = fit_at (Among s) n 0 0 ds i (candidate_fit (Among s) n ds c)
        (omega (arith, c.arranged.size)) in
        let q = shares_at (i + 1) i ds cs (omega arith) sh in
        let p = prior_shares i 0 ds cs (c.arranged.size ∙ sym size)
        (shares_less i (i + 1) ds cs (omega arith) sh) in
        absurd (out (record {
          after = λ z. subst₂ (λ (x : ℕ) (y : Cell). x < y.column) p q
              (f.after (ap (λ (y : Cell). y.step) q ∙ z));
          step = subst (λ (y : Cell). y.step ≤ most 0 i) q f.ranged.step;
        }));
  }

  pub within_none : PositionsTwinned g s n h i 0 cs
  within_none = record {
    twin = λ ds c sh sp l t. absurd
        (let f = fit_at (Among s) n 0 0 ds i (candidate_fit (Among s) n ds c)
        (omega (arith, c.arranged.size)) in omega (arith, f.ranged.low));
  }

  -- a position that was tried
  pub within_more : {m : ℕ} {cs' : List Cell} → Moved n i m cs cs'
      → Twinned g s n h (i + 1) (i + 1) cs' → PositionsTwinned g s n h i m cs
      → PositionsTwinned g s n h i (m + 1) cs
  within_more {m} {cs'} mv r q = record {
    twin = λ ds c sh sp l t. go ds c sh sp t
        (last_or m ((get_or ds i no_cell).step * n + (get_or ds i no_cell).column - 1)
        (omega (arith, low ds c)));
  }
    where
      low : (ds : List Cell) → Candidate (Among s) n ds
          → Fits (Among s) n (most 0 i) (prior 0 ds i) (get_or ds i no_cell)
      low ds c = fit_at (Among s) n 0 0 ds i (candidate_fit (Among s) n ds c)
          (omega (arith, c.arranged.size))

      go : (ds : List Cell) → Candidate (Among s) n ds → Shares i ds cs → Spelt n i ds cs
          → TwoTrees g 0 (sentence ds)
          → ((get_or ds i no_cell).step * n + (get_or ds i no_cell).column - 1 < m)
          ⊎ ((get_or ds i no_cell).step * n + (get_or ds i no_cell).column - 1 ≡ m)
          → Twin g s n h ds
      go ds c sh sp t (inl l) = q.twin ds c sh sp (omega arith) t
      go ds c sh sp t (inr e) =
          let f = low ds c in
          let k : ℕ = (get_or ds i no_cell).column - 1 in
          let z : (get_or ds i no_cell).step * n + k ≡ m = omega (arith, f.ranged.low) in
          let u : k < n = omega (arith, f.ranged.low, f.ranged.high) in
          let sd : m / n ≡ (get_or ds i no_cell).step =
          ap (λ (x : ℕ). x / n) (sym z) ∙ digits_div (get_or ds i no_cell).step u in
          let sm : m % n ≡ k =
          ap (λ (x : ℕ). x % n) (sym z) ∙ digits_mod (get_or ds i no_cell).step u in
          let ct : (get_or ds i no_cell).terminal ≡ (get_or cs' i no_cell).terminal =
          sp.same i (omega arith) lt ∙ sym (mv.terminals i) in
          let cst : (get_or ds i no_cell).step ≡ (get_or cs' i no_cell).step =
          sym sd ∙ sym mv.step in
          let cco : (get_or ds i no_cell).column ≡ (get_or cs' i no_cell).column =
          omega (arith, f.ranged.low, sm, mv.column) in
          r.twin ds c
          (shares_more i ds cs' (omega (arith, c.arranged.size)) (omega (arith, mv.size, size))
          (sh ∙ sym (mv.kept i (omega arith)))
          (λ j. record { terminal = ct j; step = cst j; column = cco j }))
          (record {
            same = λ a x y. sp.same a (omega arith) y ∙ sym (mv.terminals a);
          }) t

  -- all positions
  pub within_all : {m : ℕ} → 3 * n ≤ m → PositionsTwinned g s n h i m cs → Twinned g s n h i i cs
  within_all {m} l q = record {
    twin = λ ds c sh sp t.
        let f = fit_at (Among s) n 0 0 ds i (candidate_fit (Among s) n ds c)
        (omega (arith, c.arranged.size)) in
        let k = mul-le-mul_right n (low_step i f.ranged.step) in
        q.twin ds c sh sp (omega (arith, f.ranged.high, k)) t;
  }
    where
      low_step : (i : ℕ) {x : ℕ} → x ≤ most 0 i → x ≤ 2
      low_step zero k = omega arith
      low_step (suc i) k = k
