-- Shares follow one another, share 0 first, and have every number once; all shares of all lengths
-- are clear exactly if the sweep is, and otherwise the lowest number of the shortest length that
-- reports one is that of the sweep's sentence.
use mathlib.Core.Path.{◌≡◌, refl, sym, ◌∙◌, ap, subst}
use mathlib.Core.List.{List}
use mathlib.Core.Option.{Option, none, some}
use mathlib.Core.Logic.{◌⊎◌, inl, inr, ⊎_elim}
use Prim.Native.Nat.{ℕ, zero, suc, ◌+◌, ◌*◌, ◌/◌, ◌%◌, ◌≤◌, ◌<◌}
use native.Mathlib.Omega.{arith}
use native.Mathlib.Nat.{div-add-mod', mod-lt, mod-le, div-le_self, suc-mul, zero-mul, mul_comm}
use native.Mathlib.Nat.{mul-le-mul}
use native.Mathlib.Decide.{dec_lt, le_ind}
use lib.ListN.{length}
use Rattle.sets.proofs.Basics.{clash}
use Rattle.grammar.specs.declared.Cell.{Cell}
use Rattle.grammar.specs.Trees.{Rules, TwoTrees}
use Rattle.grammar.specs.Candidates.{Terminal, Candidate, Earlier, sentence}
use Rattle.grammar.specs.Sweeps.{Clear, FirstTwo, terminal_count, terminals_below}
use Rattle.grammar.proofs.SweepLaws.{clear_of, sentence_length, sentence_wide}
use Rattle.arrangement_numbers.specs.Numbers.{number, capacity}
use Rattle.arrangement_numbers.specs.Shares.{first_of_share, total, LowestIn, Reports}
use Rattle.arrangement_numbers.proofs.NumberLaws.{number_lt, number_mono, capacity_all}
use Rattle.arrangement_numbers.proofs.TerminalPlaces.{place_rising, place_below}

-- ---- runs that follow one another

pub begins_first : (M p : ℕ) → first_of_share M p 0 ≡ 0
unfolding first_of_share
begins_first M p = omega (arith, zero-mul (M / p))

-- one of the first shares, as many as the remainder, has one more than M ÷ p
pub begins_more : (M p i : ℕ) → i < M % p
    → first_of_share M p (suc i) ≡ first_of_share M p i + (M / p + 1)
unfolding first_of_share
begins_more M p i h = omega (arith, suc-mul i (M / p))

-- the others have M ÷ p
pub begins_else : (M p i : ℕ) → M % p ≤ i
    → first_of_share M p (suc i) ≡ first_of_share M p i + M / p
unfolding first_of_share
begins_else M p i h = omega (arith, suc-mul i (M / p))

begins_le : (M p i : ℕ) → first_of_share M p i ≤ first_of_share M p (suc i)
begins_le M p i = go (dec_lt i (M % p))
  where
    go : Dec (i < M % p) → first_of_share M p i ≤ first_of_share M p (suc i)
    go (yes l) = omega (arith, begins_more M p i l)
    go (no l) = omega (arith, begins_else M p i (omega arith))

pub begins_mono : (M p i j : ℕ) → i ≤ j → first_of_share M p i ≤ first_of_share M p j
begins_mono M p i j h =
    le_ind (λ (m : ℕ). first_of_share M p i ≤ first_of_share M p m) (omega arith)
    (λ m l v. omega (arith, v, begins_le M p m)) j h

-- the last share ends with M
pub begins_last : (M p : ℕ) → 1 ≤ p → first_of_share M p p ≡ M
unfolding first_of_share
begins_last M p h =
    omega (arith, div-add-mod' M p, mul_comm p (M / p), mod-lt M {m = p} (omega arith))

-- every number is in a share
pub share_some : (M p N j : ℕ) → N < first_of_share M p j
    → (i : ℕ) × (i < j) × (first_of_share M p i ≤ N) × (N < first_of_share M p (suc i))
share_some M p N zero h = absurd (omega (arith, begins_first M p))
share_some M p N (suc j) h = go (dec_lt N (first_of_share M p j)) (share_some M p N j)
  where
    go : Dec (N < first_of_share M p j)
        → (N < first_of_share M p j → (i : ℕ) × (i < j) × (first_of_share M p i ≤ N)
        × (N < first_of_share M p (suc i)))
        → (i : ℕ) × (i < suc j) × (first_of_share M p i ≤ N) × (N < first_of_share M p (suc i))
    go (yes l) ih = let q = ih l in (q.0, omega (arith, q.1), q.2, q.3)
    go (no l) ih = (j, omega arith, omega arith, h)

-- and in no other
pub share_once : (M p N i j : ℕ) → first_of_share M p i ≤ N → N < first_of_share M p (suc i)
    → first_of_share M p j ≤ N → N < first_of_share M p (suc j) → i ≡ j
share_once M p N i j a b c d = go (dec_lt i j) (dec_lt j i)
  where
    go : Dec (i < j) → Dec (j < i) → i ≡ j
    go (yes l) r = absurd (omega (arith, begins_mono M p (suc i) j (omega arith)))
    go (no l) (yes r) = absurd (omega (arith, begins_mono M p (suc j) i (omega arith)))
    go (no l) (no r) = omega arith

-- ---- the numbers of candidates

module _ (g : Rules) (small : (x : ℕ) → Terminal g x → x < 64) where
  pub number_below : (n : ℕ) (cs : List Cell) → 1 ≤ n → Candidate (Terminal g) n cs
      → number g n cs < total g n
  number_below n cs h k =
      let b = number_lt (terminal_count g) (terminals_below g) n (Terminal g)
      (λ x t. place_below g x (small x t) t) 0 cs k.arranged.cells in
      let e : capacity (terminal_count g) (terminals_below g) n 0 (length cs) ≡ total g n =
      rw k.arranged.size (capacity_all (terminal_count g) (terminals_below g) n h) in
      omega arith

  -- the lesser number comes first
  pub number_before : (n : ℕ) (cs ds : List Cell) → Candidate (Terminal g) n cs
      → Candidate (Terminal g) n ds → Earlier cs ds → number g n cs < number g n ds
  number_before n cs ds k l b =
      ⊎_elim (λ h. absurd (omega (arith, k.arranged.size, l.arranged.size)))
      (λ h. number_mono (terminal_count g) (terminals_below g) n (Terminal g)
      (λ x t. place_below g x (small x t) t) (λ x y t u h. place_rising g x y t h) 0 cs ds
      h.0 k.arranged.cells l.arranged.cells h.1)
      b

  -- ---- all shares and the sweep

  -- the share of a candidate of length n among p
  pub share_of : (n p : ℕ) (cs : List Cell) → 1 ≤ n → 1 ≤ p → Candidate (Terminal g) n cs
      → (i : ℕ) × (i < p) × (first_of_share (total g n) p i ≤ number g n cs)
      × (number g n cs < first_of_share (total g n) p (suc i))
  share_of n p cs h l k = share_some (total g n) p (number g n cs) p
      (omega (arith, number_below n cs h k, begins_last (total g n) p l))

  -- all shares of the lengths 1 to k are clear: the sweep is
  pub shares_clear : (k : ℕ) (p : ℕ → ℕ) → ((n : ℕ) → 1 ≤ p n)
      → ((n i : ℕ) → 1 ≤ n → n ≤ k → i < p n → Reports g n (p n) i none) → Clear g k
  shares_clear k p pos h = clear_of k
      (λ cs l u c two. let q = share_of (length cs) (p (length cs)) cs l (pos (length cs)) c in
      (h (length cs) q.0 l u q.1).absent cs c q.2 q.3 two)

  -- the sweep is clear: all of them are
  pub clear_shares : (k : ℕ) → Clear g k → (n p i : ℕ) → 1 ≤ n → n ≤ k → Reports g n p i none
  clear_shares k c n p i l u = record {
    absent = λ ds d a b two. c.absent (sentence ds) (sentence_wide 1 ds) d.rising
        (omega (arith, sentence_length 1 ds, d.arranged.size))
        (omega (arith, sentence_length 1 ds, d.arranged.size)) two;
  }

  -- the lowest of the shortest length that reports one: r n i is what share i of length n reports
  module _ (p : ℕ → ℕ) (pos : (n : ℕ) → 1 ≤ p n) (r : ℕ → ℕ → Option (List Cell))
      (right : (n i : ℕ) → 1 ≤ n → i < p n → Reports g n (p n) i (r n i)) where
    -- a report below a candidate with two trees
    reported : (n : ℕ) (ds : List Cell) → 1 ≤ n → Candidate (Terminal g) n ds
        → TwoTrees g 0 (sentence ds) → (i : ℕ) × (i < p n)
        × ((es : List Cell) × (r n i ≡ some es) × (number g n es ≤ number g n ds))
    reported n ds h d two = let q = share_of n (p n) ds h (pos n) d in
        (q.0, q.1, at (r n q.0) refl q.2 q.3 (right n q.0 h q.1))
      where
        at : {i : ℕ} (o : Option (List Cell)) → r n i ≡ o
            → first_of_share (total g n) (p n) i ≤ number g n ds
            → number g n ds < first_of_share (total g n) (p n) (suc i)
            → Reports g n (p n) i (r n i) → (es : List Cell) × (r n i ≡ some es)
            × (number g n es ≤ number g n ds)
        at {i} none e a b x = absurd ((subst (Reports g n (p n) i) e x).absent ds d a b two)
        at {i} (some es) e a b x = (es, e, least (dec_lt (number g n ds) (number g n es)))
          where
            y : Reports g n (p n) i (some es)
            y = subst (Reports g n (p n) i) e x

            least : Dec (number g n ds < number g n es) → number g n es ≤ number g n ds
            least (yes l) = absurd (y.lowest.absent ds d a l two)
            least (no l) = omega arith

    pub shares_first : (k n i : ℕ) (cs : List Cell) → 1 ≤ n → n ≤ k → i < p n → r n i ≡ some cs
        → ((m j : ℕ) → 1 ≤ m → m < n → j < p m → r m j ≡ none)
        → ((j : ℕ) (ds : List Cell) → j < p n → r n j ≡ some ds → number g n cs ≤ number g n ds)
        → FirstTwo g k cs
    shares_first k n i cs l u h e shorter lowest = record {
      low = omega (arith, y.candidate.arranged.size);
      high = omega (arith, y.candidate.arranged.size);
      candidate = subst (λ (m : ℕ). Candidate (Terminal g) m cs)
          (sym y.candidate.arranged.size) y.candidate;
      two = y.two;
      earlier = earlier;
    }
      where
        y : LowestIn g n (first_of_share (total g n) (p n) i)
            (first_of_share (total g n) (p n) (suc i))
            cs
        y = subst (Reports g n (p n) i) e (right n i l h)

        some_none : {o : Option (List Cell)} {es : List Cell} → o ≡ some es → o ≡ none → ⊥
        some_none a b = clash cc

        earlier : (ds : List Cell) → 1 ≤ length ds → Candidate (Terminal g) (length ds) ds
            → Earlier ds cs → TwoTrees g 0 (sentence ds) → ⊥
        earlier ds a c b two = go (dec_lt (length ds) n)
          where
            go : Dec (length ds < n) → ⊥
            go (yes s) = let q = reported (length ds) ds a c two in
                some_none q.2.1 (shorter (length ds) q.0 a s q.1)
            go (no s) =
                let m : length ds ≡ n = ⊎_elim (λ x. absurd
                (omega (arith, y.candidate.arranged.size)))
                (λ x. x.0 ∙ y.candidate.arranged.size) b in
                let d : Candidate (Terminal g) n ds =
                subst (λ (z : ℕ). Candidate (Terminal g) z ds) m c in
                let q = reported n ds l d two in
                omega (
                  arith,
                  number_before n ds cs d y.candidate b,
                  lowest q.0 q.2.0
                      q.1 q.2.1,
                  q.2.2,
                )

    -- of the first j shares of length n: none reports one, or one reports the lowest
    pub record Best (n j : ℕ) : Type 0 where
      pub share : ℕ
      pub within : share < j
      pub cells : List Cell
      pub reports : r n share ≡ some cells
      pub lowest : (i : ℕ) (ds : List Cell) → i < j → r n i ≡ some ds
          → number g n cells ≤ number g n ds

    some_is : {o : Option (List Cell)} {cs ds : List Cell} → o ≡ some cs → o ≡ some ds → cs ≡ ds
    some_is a b = cc

    not_some : {o : Option (List Cell)} {cs : List Cell} → o ≡ none → o ≡ some cs → ⊥
    not_some a b = clash cc

    up_to : {P : ℕ → Type 0} (j : ℕ) → ((i : ℕ) → i < j → P i) → P j → (i : ℕ) → i < suc j → P i
    up_to {P} j h k i l =
        elim (dec_lt i j) [ yes q ↦ h i q | no q ↦ subst P (let e : j ≡ i = omega arith in e) k ]

    best : (n j : ℕ) → ((i : ℕ) → i < j → r n i ≡ none) ⊎ Best n j
    best n zero = inl (λ i h. absurd (omega arith))
    best n (suc j) = at (r n j) refl (best n j)
      where
        at : (o : Option (List Cell)) → r n j ≡ o → ((i : ℕ) → i < j → r n i ≡ none) ⊎ Best n j
            → ((i : ℕ) → i < suc j → r n i ≡ none) ⊎ Best n (suc j)
        at none e (inl h) = inl (up_to {P = λ i. r n i ≡ none} j h e)
        at none e (inr b) = inr (record {
          share = b.share;
          within = omega (arith, b.within);
          cells = b.cells;
          reports = b.reports;
          lowest = λ i ds l q. up_to {P = λ i. (ds : List Cell) → r n i ≡ some ds
              → number g n b.cells ≤ number g n ds} j (λ i m es x. b.lowest i es m x)
              (λ es x. absurd (not_some e x)) i l ds q;
        })
        at (some cs) e (inl h) = inr (record {
          share = j;
          within = omega arith;
          cells = cs;
          reports = e;
          lowest = λ i ds l q. up_to {P = λ i. (ds : List Cell) → r n i ≡ some ds
              → number g n cs ≤ number g n ds} j (λ i m es x. absurd (not_some (h i m) x))
              (λ es x. omega (arith, ap (number g n) (some_is e x))) i l ds q;
        })
        at (some cs) e (inr b) = by (dec_lt (number g n cs) (number g n b.cells))
          where
            by : Dec (number g n cs < number g n b.cells)
                → ((i : ℕ) → i < suc j → r n i ≡ none) ⊎ Best n (suc j)
            by (yes k) = inr (record {
              share = j;
              within = omega arith;
              cells = cs;
              reports = e;
              lowest = λ i ds l q. up_to {P = λ i. (ds : List Cell) → r n i ≡ some ds
                  → number g n cs ≤ number g n ds} j (λ i m es x. omega (arith, b.lowest i es m x))
                  (λ es x. omega (arith, ap (number g n) (some_is e x))) i l ds q;
            })
            by (no k) = inr (record {
              share = b.share;
              within = omega (arith, b.within);
              cells = b.cells;
              reports = b.reports;
              lowest = λ i ds l q. up_to {P = λ i. (ds : List Cell) → r n i ≡ some ds
                  → number g n b.cells ≤ number g n ds} j (λ i m es x. b.lowest i es m x)
                  (λ es x. omega (arith, ap (number g n) (some_is e x))) i l ds q;
            })

    -- the first candidate with two trees, as a share reports it: share `share` of length `size`
    -- does, no share of a shorter length does, and no share of that length a lower number
    pub record First (k : ℕ) : Type 0 where
      pub size : ℕ
      pub low : 1 ≤ size
      pub high : size ≤ k
      pub best : Best size (p size)
      pub shorter : (m j : ℕ) → 1 ≤ m → m < size → j < p m → r m j ≡ none
      pub first : FirstTwo g k best.cells

    -- whatever the shares report: the sweep is clear, and so are they, or the lowest number of the
    -- shortest length is the sweep's
    pub shares_sweep : (k : ℕ) → (Clear g k × ((m j : ℕ) → 1 ≤ m → m ≤ k → j < p m → r m j ≡ none))
        ⊎ First k
    shares_sweep zero =
        inl (record { absent = λ w s l u t. omega arith }, λ m j l u h. absurd (omega arith))
    shares_sweep (suc k) = ⊎_elim longer (λ f. inr (further f)) (shares_sweep k)
      where
        further : First k → First (suc k)
        further f = record {
          size = f.size;
          low = f.low;
          high = omega (arith, f.high);
          best = f.best;
          shorter = f.shorter;
          first = record {
            low = f.first.low;
            high = omega (arith, f.first.high);
            candidate = f.first.candidate;
            two = f.first.two;
            earlier = f.first.earlier;
          };
        }

        longer : Clear g k × ((m j : ℕ) → 1 ≤ m → m ≤ k → j < p m → r m j ≡ none)
            → (Clear g (suc k) × ((m j : ℕ) → 1 ≤ m → m ≤ suc k → j < p m → r m j ≡ none))
            ⊎ First (suc k)
        longer c = ⊎_elim (λ h. inl (all h)) (λ b. inr (here b)) (best (suc k) (p (suc k)))
          where
            none_all : ((i : ℕ) → i < p (suc k) → r (suc k) i ≡ none) → (m j : ℕ) → 1 ≤ m
                → m ≤ suc k → j < p m → r m j ≡ none
            none_all h m j l u i = elim (dec_lt m (suc k)) [
              | yes q ↦ c.1 m j l (omega arith) i
              | no q ↦ subst
                  (λ (z : ℕ). (v : ℕ) → v < p z → r z v ≡ none)
                  (let e : suc k ≡ m = omega arith in e) h j i
            ]

            all : ((i : ℕ) → i < p (suc k) → r (suc k) i ≡ none)
                → Clear g (suc k) × ((m j : ℕ) → 1 ≤ m → m ≤ suc k → j < p m → r m j ≡ none)
            all h = (
              shares_clear (suc k) p pos
                  (λ m i l u q. subst (Reports g m (p m) i) (none_all h m i l u q) (right m i l q)),
              none_all h,
            )

            here : Best (suc k) (p (suc k)) → First (suc k)
            here b = record {
              size = suc k;
              low = omega arith;
              high = omega arith;
              best = b;
              shorter = λ m j l u q. c.1 m j l (omega arith) q;
              first = shares_first (suc k) (suc k) b.share b.cells (omega arith) (omega arith)
                  b.within b.reports (λ m j l u q. c.1 m j l (omega arith) q)
                  (λ j ds q e. b.lowest j ds q e);
            }

-- ---- as the code works it out

pub begins_low : (M p i : ℕ) → i < M % p → i * (M / p) + i ≡ first_of_share M p i
unfolding first_of_share
begins_low M p i h = omega arith

pub begins_high : (M p i : ℕ) → M % p ≤ i → i * (M / p) + M % p ≡ first_of_share M p i
unfolding first_of_share
begins_high M p i h = omega arith

pub product_small : (M p i : ℕ) → M ≤ 4294967296 → i ≤ 64 → i * (M / p) ≤ 274877906944
product_small M p i h k =
    mul-le-mul {n₁ = i} {m₁ = M / p} {n₂ = 64} {m₂ = 4294967296} k (omega (arith, div-le_self M p))

pub remainder_small : (M p : ℕ) → 1 ≤ p → M % p ≤ M
remainder_small M p h = omega (arith, mod-le M p)
