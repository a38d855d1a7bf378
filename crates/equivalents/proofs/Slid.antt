-- A column that no token is in can be filled from above: the tokens of the columns past it, up to
-- some column, go one column back, and each mark that held holds.
use mathlib.Core.Path.{◌≡◌, refl, ◌∙◌, ap, ap₂, subst}
use mathlib.Core.List.{List, [], ◌∷◌, map}
use mathlib.Core.Logic.{◌⊎◌, inl, inr, ⊎_elim}
use Prim.Native.Nat.{ℕ, zero, suc, ◌+◌, ◌-◌, ◌≤◌, ◌<◌, min}
use native.Mathlib.Omega.{arith}
use native.Mathlib.Decide.{dec_lt, dec_le}
use lib.ListN.{length, take}
use Rattle.grammar.specs.declared.Token.{Token}
use Rattle.grammar.specs.declared.Cell.{Cell}
use Rattle.grammar.specs.Layout.{col, Every}
use Rattle.grammar.specs.Trees.{Rules, TwoTrees}
use Rattle.grammar.specs.Candidates.{placed, sentence, Candidate, CellsBefore}
use Rattle.grammar.proofs.SweepLaws.{cell_path}
use Rattle.grammar.proofs.Transfer.{Alike, same_atoms, two_keeps}
use Rattle.candidates.specs.Terminals.{Among}
use Rattle.candidates.specs.Windows.{Fit}
use Rattle.candidates.proofs.ListOrder.{fit_candidate, candidate_fit}
use Rattle.equivalents.specs.Twins.{At, Twin}

-- no cell is in column k
abbrev pub Free : ℕ → List Cell → Type 0
Free k [] = Unit {0}
Free k (c ∷ cs) = (c.column ≡ k → ⊥) × Free k cs

-- the columns past k, up to d, one back
abbrev back : ℕ → ℕ → ℕ → ℕ
back k d x = x - min 1 (min (x - k) (suc d - x))

-- x goes to u
abbrev Goes : ℕ → ℕ → ℕ → ℕ → Type 0
Goes k d x u =
    ((u ≡ x) × (x < k)) ⊎ (((u ≡ x - 1) × (k < x) × (x ≤ d)) ⊎ ((u ≡ x) × (k < x) × (d < x)))

back_low : (k d x : ℕ) → x ≤ k → back k d x ≡ x
back_low k d x h = omega arith

back_mid : (k d x : ℕ) → k < x → x ≤ d → back k d x ≡ x - 1
back_mid k d x h l = omega arith

back_high : (k d x : ℕ) → d < x → back k d x ≡ x
back_high k d x h = omega arith

goes : (k d x : ℕ) → (x ≡ k → ⊥) → Goes k d x (back k d x)
goes k d x n = go (dec_lt x k) (dec_le x d)
  where
    above : (x < k → ⊥) → k < x
    above l = elim (dec_lt k x) [ yes h ↦ h | no h ↦ absurd (n (omega arith)) ]

    go : Dec (x < k) → Dec (x ≤ d) → Goes k d x (back k d x)
    go (yes l) r = inl (back_low k d x (omega arith), l)
    go (no l) (yes r) = inr (inl (back_mid k d x (above l) r, above l, r))
    go (no l) (no r) = inr (inr (back_high k d x (omega arith), above l, omega arith))

module _ (k d : ℕ) where
  goes_lt : (x y u v : ℕ) → Goes k d x u → Goes k d y v → x < y → u < v
  goes_lt x y u v (inl a) (inl b) h = omega (arith, a.0, b.0)
  goes_lt x y u v (inl a) (inr (inl b)) h = omega (arith, a.0, b.0, a.1, b.1)
  goes_lt x y u v (inl a) (inr (inr b)) h = omega (arith, a.0, b.0)
  goes_lt x y u v (inr (inl a)) (inl b) h = absurd (omega (arith, a.1, b.1))
  goes_lt x y u v (inr (inl a)) (inr (inl b)) h = omega (arith, a.0, b.0, a.1)
  goes_lt x y u v (inr (inl a)) (inr (inr b)) h = omega (arith, a.0, b.0)
  goes_lt x y u v (inr (inr a)) (inl b) h = absurd (omega (arith, a.1, b.1))
  goes_lt x y u v (inr (inr a)) (inr (inl b)) h = absurd (omega (arith, a.2, b.2))
  goes_lt x y u v (inr (inr a)) (inr (inr b)) h = omega (arith, a.0, b.0)

  lt_goes : (x y u v : ℕ) → Goes k d x u → Goes k d y v → u < v → x < y
  lt_goes x y u v (inl a) (inl b) h = omega (arith, a.0, b.0)
  lt_goes x y u v (inl a) (inr (inl b)) h = omega (arith, a.0, b.0)
  lt_goes x y u v (inl a) (inr (inr b)) h = omega (arith, a.0, b.0)
  lt_goes x y u v (inr (inl a)) (inl b) h = absurd (omega (arith, a.0, a.1, b.0, b.1))
  lt_goes x y u v (inr (inl a)) (inr (inl b)) h = omega (arith, a.0, b.0, a.1, b.1)
  lt_goes x y u v (inr (inl a)) (inr (inr b)) h = omega (arith, a.2, b.2)
  lt_goes x y u v (inr (inr a)) (inl b) h = absurd (omega (arith, a.0, a.1, b.0, b.1))
  lt_goes x y u v (inr (inr a)) (inr (inl b)) h = absurd (omega (arith, a.0, b.0, a.2, b.2))
  lt_goes x y u v (inr (inr a)) (inr (inr b)) h = omega (arith, a.0, b.0)

  back_lt : (x y : ℕ) → (x ≡ k → ⊥) → (y ≡ k → ⊥) → x < y → back k d x < back k d y
  back_lt x y p q = goes_lt x y (back k d x) (back k d y) (goes k d x p) (goes k d y q)

  lt_back : (x y : ℕ) → (x ≡ k → ⊥) → (y ≡ k → ⊥) → back k d x < back k d y → x < y
  lt_back x y p q = lt_goes x y (back k d x) (back k d y) (goes k d x p) (goes k d y q)

  goes_range : (x u n : ℕ) → 1 ≤ k → Goes k d x u → 1 ≤ x → x ≤ n → (1 ≤ u) × (u ≤ n)
  goes_range x u n l (inl a) h i = (omega (arith, a.0), omega (arith, a.0))
  goes_range x u n l (inr (inl a)) h i = (omega (arith, a.0, a.1), omega (arith, a.0))
  goes_range x u n l (inr (inr a)) h i = (omega (arith, a.0), omega (arith, a.0))

  abbrev shift : Token → Token
  shift t = record {
    terminal = t.terminal;
    line = t.line;
    column = record
        { 0 = back k d (col t) };
    width = t.width;
  }

  abbrev slide : List Cell → List Cell
  slide [] = []
  slide (c ∷ cs) =
      record { terminal = c.terminal; step = c.step; column = back k d c.column } ∷ slide cs

  -- no cell is in one of the columns that move
  abbrev pub Still : List Cell → Type 0
  Still [] = Unit {0}
  Still (c ∷ cs) = (k < c.column → c.column ≤ d → ⊥) × Still cs

  slid : (l : ℕ) (cs : List Cell) → map shift (placed l cs) ≡ placed l (slide cs)
  slid l [] = refl
  slid l (c ∷ cs) = ap₂ ◌∷◌ refl (slid (l + c.step) cs)

  free_every : (l : ℕ) (cs : List Cell) → Free k cs → Every (λ t. col t ≡ k → ⊥) (placed l cs)
  free_every l [] f = tt
  free_every l (c ∷ cs) f = (f.0, free_every (l + c.step) cs f.1)

  shift_alike : (g : Rules) → Alike g (λ t. col t ≡ k → ⊥) shift
  shift_alike g = record {
    atoms = λ a p. same_atoms g a (shift a) refl;
    keeps = λ a b p q. record {
      columns =
          (back_lt (col a) (col b) p q, lt_back (col a) (col b) p q);
      lines = (λ h. h, λ h. h);
    };
  }

  slide_fit : (Q : ℕ → Type 0) (n m p : ℕ) (cs : List Cell) → 1 ≤ k → (p ≡ k → ⊥) → Free k cs
      → Fit Q n m p cs → Fit Q n m (back k d p) (slide cs)
  slide_fit Q n m p [] l h f q = tt
  slide_fit Q n m p (c ∷ cs) l h f q = (
    record {
      ranged = record {
        terminal = q.0.ranged.terminal;
        step = q.0.ranged.step;
        low = (goes_range c.column (back k d c.column) n l (goes k d c.column f.0)
            q.0.ranged.low q.0.ranged.high).0;
        high = (goes_range c.column (back k d c.column) n l (goes k d c.column f.0)
            q.0.ranged.low q.0.ranged.high).1;
      };
      after = λ z. back_lt p c.column h f.0 (q.0.after z);
    },
    slide_fit Q n 2 c.column cs l f.0 f.1 q.1,
  )

  slide_long : (cs : List Cell) → length (slide cs) ≡ length cs
  slide_long [] = refl
  slide_long (c ∷ cs) = ap suc (slide_long cs)

  -- cells that stand still are kept
  slide_kept : (p : ℕ) (cs : List Cell) → Free k cs → Still (take p cs)
      → take p (slide cs) ≡ take p cs
  slide_kept zero cs f s = refl
  slide_kept (suc p) [] f s = refl
  slide_kept (suc p) (c ∷ cs) f s =
      ap₂ ◌∷◌ (cell_path refl refl (⊎_elim (λ a. a.0)
      (λ o. ⊎_elim (λ a. absurd (s.0 a.1 a.2)) (λ a. a.0) o)
      (goes k d c.column f.0))) (slide_kept p cs f.1 s.1)

  slide_before : (p : ℕ) (cs : List Cell) → Free k cs → k < d → At (λ c. c.column ≡ d) p cs
      → CellsBefore (slide cs) cs
  slide_before p [] f h t = absurd t
  slide_before p (c ∷ cs) f h t =
      go (goes k d c.column f.0) p t (λ q u. slide_before q cs f.1 h u)
    where
      go : Goes k d c.column (back k d c.column) → (p : ℕ)
          → At (λ c. c.column ≡ d) p (c ∷ cs)
          → ((q : ℕ) → At (λ c. c.column ≡ d) q cs → CellsBefore (slide cs) cs)
          → CellsBefore (slide (c ∷ cs)) (c ∷ cs)
      go (inr (inl a)) p t ih = inl (inr (inr (refl, refl, omega (arith, a.0, a.1))))
      go (inl a) zero t ih = absurd (omega (arith, a.1))
      go (inr (inr a)) zero t ih = absurd (omega (arith, a.2))
      go (inl a) (suc p) t ih = inr (cell_path refl refl a.0, ih p t)
      go (inr (inr a)) (suc p) t ih = inr (cell_path refl refl a.0, ih p t)

  pub slide_twin : (g : Rules) (s n p q : ℕ) (ds : List Cell) → 1 ≤ k → k < d
      → Candidate (Among s) n ds → Free k ds → Still (take p ds) → At (λ c. c.column ≡ d) q ds
      → TwoTrees g 0 (sentence ds) → Twin g s n p ds
  slide_twin g s n p q ds l h c f st t two = record {
    cells = slide ds;
    candidate = fit_candidate (Among s) n (slide ds) (slide_long ds ∙ c.arranged.size)
        (subst (λ (x : ℕ). Fit (Among s) n 0 x (slide ds)) (back_low k d 0 (omega arith))
        (slide_fit (Among s) n 0 0 ds l (λ z. omega arith) f (candidate_fit (Among s) n ds c)));
    kept = slide_kept p ds f st;
    before = slide_before q ds f h t;
    two = subst (TwoTrees g 0) (slid 1 ds)
        (two_keeps g (λ t. col t ≡ k → ⊥) shift (shift_alike g) 0 (sentence ds) (free_every 1 ds f)
        two);
  }
