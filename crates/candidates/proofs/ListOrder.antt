-- The order of lists of cells: one cell's least, next and last make those of the cells from it on.
use mathlib.Core.Path.{◌≡◌, refl, sym, ap, subst}
use mathlib.Core.List.{List, [], ◌∷◌}
use mathlib.Core.Logic.{◌⊎◌, inl, inr, ⊎_elim}
use Prim.Native.Nat.{ℕ, suc, ◌+◌}
use native.Mathlib.Omega.{arith}
use native.Mathlib.Decide.{ℕ_discrete}
use lib.ListN.{length, take}
use Rattle.grammar.specs.declared.Token.{Token}
use Rattle.grammar.specs.declared.Cell.{Cell}
use Rattle.grammar.specs.Layout.{line, col, width}
use Rattle.grammar.specs.Candidates.{RisingFrom, token, placed, Cells, Candidate, CellBefore}
use Rattle.grammar.specs.Candidates.{CellsBefore}
use Rattle.candidates.specs.Succession.{Shares}
use Rattle.candidates.specs.Windows.{Fits, Fit, LeastCell, NextCell, LastCell, Least, Next}
use Rattle.candidates.specs.Windows.{Last}

-- ---- a candidate is what fits after column 0 with a first step of 0

fit_rising : (Q : ℕ → Type 0) (n m l : ℕ) (a : Token) (cs : List Cell) → line a ≡ l → width a ≡ 1
    → Fit Q n m (col a) cs → RisingFrom a (placed l cs)
fit_rising Q n m l a [] e w f = tt
fit_rising Q n m l a (c ∷ cs) e w f = (
  elim (ℕ_discrete c.step 0) [
    | yes z ↦ inr (omega arith, omega (arith, f.0.after z))
    | no z ↦
        inl (omega arith)
  ],
  fit_rising Q n 2 (l + c.step) (token (l + c.step) c) cs refl refl f.1,
)

rising_fit : (Q : ℕ → Type 0) (n m l : ℕ) (a : Token) (cs : List Cell) → line a ≡ l → width a ≡ 1
    → Cells Q n m cs → RisingFrom a (placed l cs) → Fit Q n m (col a) cs
rising_fit Q n m l a [] e w k r = tt
rising_fit Q n m l a (c ∷ cs) e w k r = (
  record {
    ranged = k.0;
    after =
        λ z. ⊎_elim (λ h. absurd (omega arith)) (λ h. omega (arith, h.1)) r.0;
  },
  rising_fit Q n 2 (l + c.step) (token (l + c.step) c) cs refl refl k.1 r.1,
)

fit_cells : (Q : ℕ → Type 0) (n m p : ℕ) (cs : List Cell) → Fit Q n m p cs → Cells Q n m cs
fit_cells Q n m p [] f = tt
fit_cells Q n m p (c ∷ cs) f = (f.0.ranged, fit_cells Q n 2 c.column cs f.1)

pub fit_candidate : (Q : ℕ → Type 0) (n : ℕ) (cs : List Cell) → length cs ≡ n → Fit Q n 0 0 cs
    → Candidate Q n cs
fit_candidate Q n [] e f = record { arranged = record { size = e; cells = tt }; rising = tt }
fit_candidate Q n (c ∷ cs) e f = record {
  arranged = record { size = e; cells = fit_cells Q n 0 0 (c ∷ cs) f };
  rising = fit_rising Q n 2 (1 + c.step) (token (1 + c.step) c) cs refl refl f.1;
}

pub candidate_fit : (Q : ℕ → Type 0) (n : ℕ) (cs : List Cell) → Candidate Q n cs → Fit Q n 0 0 cs
candidate_fit Q n [] k = tt
candidate_fit Q n (c ∷ cs) k = (
  record { ranged = k.arranged.cells.0; after = λ z. omega (arith, k.arranged.cells.0.low) },
  rising_fit Q n 2 (1 + c.step) (token (1 + c.step) c) cs refl refl k.arranged.cells.1
      k.rising,
)

-- ---- least, next and last of one cell more

module _ (Q : ℕ → Type 0) (n m p : ℕ) where
  pub least_nil : Least Q n m p 0 []
  least_nil = record { size = refl; fit = tt; least = go }
    where
      go : (ds : List Cell) → length ds ≡ 0 → Fit Q n m p ds → CellsBefore ds [] → ⊥
      go [] e f b = b
      go (d ∷ ds) e f b = b

  -- all share the first 0 cells
  pub last_zero : (cs : List Cell) → Last Q n m p 0 cs
  last_zero cs = record { last = λ ds e f. inl refl }

  pub least_cons : (j : ℕ) (c : Cell) (cs : List Cell) → LeastCell Q n m p c
      → Least Q n 2 c.column j cs → Least Q n m p (suc j) (c ∷ cs)
  least_cons j c cs h t = record { size = ap suc t.size; fit = (h.fits, t.fit); least = go }
    where
      go : (ds : List Cell) → length ds ≡ suc j → Fit Q n m p ds → CellsBefore ds (c ∷ cs) → ⊥
      go [] e f b = b
      go (d ∷ ds) e f (inl b) = h.least d f.0 b
      go (d ∷ ds) e f (inr b) = t.least ds (omega arith)
          (subst (λ (k : ℕ). Fit Q n 2 k ds) (ap (λ (x : Cell). x.column) b.0) f.1) b.1

  cons_or : (b : ℕ) (d c : Cell) (ds cs : List Cell) → d ≡ c → Shares b ds cs ⊎ CellsBefore ds cs
      → Shares (suc b) (d ∷ ds) (c ∷ cs) ⊎ CellsBefore (d ∷ ds) (c ∷ cs)
  cons_or b d c ds cs e (inl h) = inl (cc)
  cons_or b d c ds cs e (inr h) = inr (inr (e, h))

  pub last_cons : (k : ℕ) (c : Cell) (cs : List Cell) → LastCell Q n m p c
      → Last Q n 2 c.column k cs → Last Q n m p (suc k) (c ∷ cs)
  last_cons k c cs h t = record { last = go }
    where
      tails : (d : Cell) (ds : List Cell) → length ds ≡ length cs → Fit Q n 2 d.column ds
          → (d ≡ c) ⊎ CellBefore d c → Shares (suc k) (d ∷ ds) (c ∷ cs)
          ⊎ CellsBefore (d ∷ ds) (c ∷ cs)
      tails d ds e f (inl q) = cons_or k d c ds cs q
          (t.last ds e (subst (λ (x : ℕ). Fit Q n 2 x ds) (ap (λ (y : Cell). y.column) q) f))
      tails d ds e f (inr q) = inr (inl q)

      go : (ds : List Cell) → length ds ≡ suc (length cs) → Fit Q n m p ds
          → Shares (suc k) ds (c ∷ cs) ⊎ CellsBefore ds (c ∷ cs)
      go [] e f = absurd (omega arith)
      go (d ∷ ds) e f = tails d ds (omega arith) f.1 (h.last d f.0)

  pub next_tail : (k : ℕ) (c : Cell) (cs rs : List Cell) → Fits Q n m p c
      → Next Q n 2 c.column k cs rs → Next Q n m p (suc k) (c ∷ cs) (c ∷ rs)
  next_tail k c cs rs h t =
      record { size = ap suc t.size; fit = (h, t.fit); later = after; gapless = go }
    where
      after : (ds : List Cell) → length ds ≡ suc (length cs) → Shares (suc k) ds (c ∷ cs)
          → CellsBefore ds (c ∷ rs)
      after [] e s = absurd (omega arith)
      after (d ∷ ds) e s = let q : d ≡ c = cc in let r : take k ds ≡ take k cs = cc in
          inr (q, t.later ds (omega arith) r)

      go : (ds : List Cell) → length ds ≡ suc (length cs) → Fit Q n m p ds → CellsBefore ds (c ∷ rs)
          → Shares (suc k) ds (c ∷ cs) ⊎ CellsBefore ds (c ∷ cs)
      go [] e f b = absurd b
      go (d ∷ ds) e f (inl b) = inr (inl b)
      go (d ∷ ds) e f (inr b) = cons_or k d c ds cs b.0
          (t.gapless ds (omega arith) (subst (λ (x : ℕ). Fit Q n 2 x ds)
          (ap (λ (y : Cell). y.column) b.0) f.1) b.1)

  pub next_head : (k : ℕ) (c r : Cell) (cs ls : List Cell) → Last Q n 2 c.column k cs
      → NextCell Q n m p c r → Least Q n 2 r.column (length cs) ls
      → Next Q n m p (suc k) (c ∷ cs) (r ∷ ls)
  next_head k c r cs ls t h l =
      record { size = ap suc l.size; fit = (h.fits, l.fit); later = after; gapless = go }
    where
      after : (ds : List Cell) → length ds ≡ suc (length cs) → Shares (suc k) ds (c ∷ cs)
          → CellsBefore ds (r ∷ ls)
      after [] e s = absurd (omega arith)
      after (d ∷ ds) e s = let q : d ≡ c = cc in
          inl (subst (λ (x : Cell). CellBefore x r) (sym q) h.later)

      tails : (d : Cell) (ds : List Cell) → length ds ≡ length cs → Fit Q n 2 d.column ds
          → (d ≡ c) ⊎ CellBefore d c → Shares (suc k) (d ∷ ds) (c ∷ cs)
          ⊎ CellsBefore (d ∷ ds) (c ∷ cs)
      tails d ds e f (inl q) = cons_or k d c ds cs q
          (t.last ds e (subst (λ (x : ℕ). Fit Q n 2 x ds) (ap (λ (y : Cell). y.column) q) f))
      tails d ds e f (inr q) = inr (inl q)

      go : (ds : List Cell) → length ds ≡ suc (length cs) → Fit Q n m p ds → CellsBefore ds (r ∷ ls)
          → Shares (suc k) ds (c ∷ cs) ⊎ CellsBefore ds (c ∷ cs)
      go [] e f b = absurd b
      go (d ∷ ds) e f (inl b) = tails d ds (omega arith) f.1 (h.gapless d f.0 b)
      go (d ∷ ds) e f (inr b) = absurd
          (l.least ds (omega arith) (subst (λ (x : ℕ). Fit Q n 2 x ds)
          (ap (λ (y : Cell). y.column) b.0) f.1) b.1)
