-- Columns to be filled: where they are more than the cells to come, one stays left out, and the
-- cells above it can go one column back.
use mathlib.Core.Path.{◌≡◌, refl, sym, ◌∙◌, ap, subst}
use mathlib.Core.Bool.{Bool, true, false, cond, ◌||◌, not}
use mathlib.Core.List.{List, [], ◌∷◌, ◌++◌}
use Prim.Native.Nat.{ℕ, zero, suc, ◌+◌, ◌-◌, ◌≤◌, ◌<◌}
use native.Mathlib.Omega.{arith}
use native.Mathlib.Decide.{ℕ_discrete}
use lib.Dec.{eqb}
use lib.ListN.{length, take, drop, length-drop, take-append-drop}
use borrow.Author.Tests.{eqb-true, eqb-false, eq-eqb, ne_eqb}
use Rattle.sets.proofs.Says.{true_not_false}
use Rattle.grammar.specs.declared.Cell.{Cell}
use Rattle.grammar.specs.Trees.{Rules, TwoTrees}
use Rattle.grammar.specs.Candidates.{sentence, Candidate}
use Rattle.candidates.specs.Terminals.{Among}
use Rattle.candidates.specs.Succession.{Shares}
use Rattle.equivalents.specs.Twins.{At, Twin, Replaceable, used, lacking}
use Rattle.equivalents.proofs.Slid.{Free, Still, slide_twin}
use Rattle.equivalents.proofs.Lowered.{shares_less}

module _ (hs cs : List Cell) where
  -- those of them that the cells vs leave out too
  abbrev short : ℕ → Bool → List Cell → ℕ
  short zero w vs = 0
  short (suc m) w vs = cond (used (suc m) cs) (short m (not (used (suc m) hs)) vs)
      (cond w (cond (used (suc m) vs) 0 1) 0 + short m w vs)

  short_none : (m : ℕ) (w : Bool) → lacking m w hs cs ≡ short m w []
  short_none zero w = refl
  short_none (suc m) w = go (short_none m) (used (suc m) cs)
    where
      go : ((v : Bool) → lacking m v hs cs ≡ short m v []) → (b : Bool)
          → cond b (lacking m (not (used (suc m) hs)) hs cs) (cond w 1 0 + lacking m w hs cs)
          ≡ cond b (short m (not (used (suc m) hs)) []) (cond w 1 0 + short m w [])
      go ih true = ih (not (used (suc m) hs))
      go ih false = ap (λ (x : ℕ). cond w 1 0 + x) (ih w)

  module _ (c : Cell) (vs : List Cell) where
    used_other : (j : ℕ) → (c.column ≡ j → ⊥) → used j (c ∷ vs) ≡ used j vs
    used_other j n = rw (ne_eqb c.column j n)

    short_below : (m : ℕ) (w : Bool) → m < c.column → short m w (c ∷ vs) ≡ short m w vs
    short_below zero w h = refl
    short_below (suc m) w h = go (λ v. short_below m v (omega arith)) (used (suc m) cs)
      where
        go : ((v : Bool) → short m v (c ∷ vs) ≡ short m v vs) → (b : Bool)
            → cond b (short m (not (used (suc m) hs)) (c ∷ vs))
            (cond w (cond (used (suc m) (c ∷ vs)) 0 1) 0 + short m w (c ∷ vs))
            ≡ cond b (short m (not (used (suc m) hs)) vs)
            (cond w (cond (used (suc m) vs) 0 1) 0 + short m w vs)
        go ih true = ih (not (used (suc m) hs))
        go ih false = rw (used_other (suc m) (λ e. omega arith), ih w)

    one_at_most : (w b : Bool) → cond w (cond b 0 1) 0 ≤ 1
    one_at_most true true = omega arith
    one_at_most true false = omega arith
    one_at_most false b = omega arith

    -- a cell fills one column at most
    short_one : (m : ℕ) (w : Bool) → short m w vs ≤ short m w (c ∷ vs) + 1
    short_one zero w = omega arith
    short_one (suc m) w = go (short_one m) (used (suc m) cs)
      where
        go : ((v : Bool) → short m v vs ≤ short m v (c ∷ vs) + 1) → (b : Bool)
            → cond b (short m (not (used (suc m) hs)) vs)
            (cond w (cond (used (suc m) vs) 0 1) 0 + short m w vs)
            ≤ cond b (short m (not (used (suc m) hs)) (c ∷ vs))
            (cond w (cond (used (suc m) (c ∷ vs)) 0 1) 0 + short m w (c ∷ vs)) + 1
        go ih true = ih (not (used (suc m) hs))
        go ih false = at (ℕ_discrete c.column (suc m))
          where
            at : Dec (c.column ≡ suc m) → cond w (cond (used (suc m) vs) 0 1) 0 + short m w vs
                ≤ cond w (cond (used (suc m) (c ∷ vs)) 0 1) 0 + short m w (c ∷ vs) + 1
            at (yes e) =
                omega (arith, short_below m w (omega arith), one_at_most w (used (suc m) vs))
            at (no n) = rw (used_other (suc m) n) (omega (arith, ih w))

  short_rest : (m : ℕ) (w : Bool) (vs : List Cell) → short m w [] ≤ short m w vs + length vs
  short_rest m w [] = omega arith
  short_rest m w (c ∷ vs) = omega (arith, short_rest m w vs, short_one c vs m w)

  -- ---- a column that stays left out, below one that is used and not held, with none used between

  record Above (m : ℕ) : Type 0 where
    pub top : ℕ
    pub over : m < top
    pub there : used top cs ≡ true
    pub unheld : used top hs ≡ false
    pub between : (j : ℕ) → m < j → j < top → used j cs ≡ false

  record Spare (vs : List Cell) : Type 0 where
    pub gap : ℕ
    pub low : 1 ≤ gap
    pub free : used gap cs ≡ false
    pub unfilled : used gap vs ≡ false
    pub above : Above gap

  spare : (vs : List Cell) (m : ℕ) (w : Bool) → (w ≡ true → Above m) → 1 ≤ short m w vs → Spare vs
  spare vs zero w a h = absurd (omega arith)
  spare vs (suc m) w a h = go (spare vs m) (used (suc m) cs) refl h
    where
      here : used (suc m) cs ≡ true → (b : Bool) → used (suc m) hs ≡ b → not b ≡ true → Above m
      here e true q z = absurd (true_not_false (sym z))
      here e false q z = record {
        top = suc m;
        over = omega arith;
        there = e;
        unheld = q;
        between =
            λ j k l. absurd (omega arith);
      }

      lower : used (suc m) cs ≡ false → Above (suc m) → Above m
      lower e x = record {
        top = x.top;
        over = omega (arith, x.over);
        there = x.there;
        unheld = x.unheld;
        between = between;
      }
        where
          between : (j : ℕ) → m < j → j < x.top → used j cs ≡ false
          between j k l = elim (ℕ_discrete j (suc m)) [
            | yes q ↦ subst (λ (z : ℕ). used z cs ≡ false) (sym q) e
            | no q ↦ x.between j
                (omega arith) l
          ]

      go : ((v : Bool) → (v ≡ true → Above m) → 1 ≤ short m v vs → Spare vs) → (b : Bool)
          → used (suc m) cs ≡ b → 1 ≤ cond b (short m (not (used (suc m) hs)) vs)
          (cond w (cond (used (suc m) vs) 0 1) 0 + short m w vs) → Spare vs
      go ih true e h = ih (not (used (suc m) hs)) (here e (used (suc m) hs) refl) h
      go ih false e h = at w refl h
        where
          fill : (u : Bool) → used (suc m) vs ≡ u → w ≡ true → 1 ≤ cond u 0 1 + short m w vs
              → Spare vs
          fill true q z i = ih w (λ y. lower e (a y)) (omega arith)
          fill false q z i =
              record { gap = suc m; low = omega arith; free = e; unfilled = q; above = a z }

          at : (x : Bool) → w ≡ x → 1 ≤ cond x (cond (used (suc m) vs) 0 1) 0 + short m w vs
              → Spare vs
          at true z i = fill (used (suc m) vs) refl z i
          at false z i = ih w (λ y. absurd (true_not_false (sym y ∙ z))) (omega arith)

-- ---- what is used

or_false : (a b : Bool) → (a || b) ≡ false → (a ≡ false) × (b ≡ false)
or_false true b e = absurd (true_not_false e)
or_false false b e = (refl, e)

unused_free : (k : ℕ) (cs : List Cell) → used k cs ≡ false → Free k cs
unused_free k [] e = tt
unused_free k (c ∷ cs) e = let q = or_false (eqb c.column k) (used k cs) e in
    (eqb-false c.column k q.0, unused_free k cs q.1)

unused_append : (k : ℕ) (u v : List Cell) → used k u ≡ false → used k v ≡ false
    → used k (u ++ v) ≡ false
unused_append k [] v p q = q
unused_append k (c ∷ u) v p q = let x = or_false (eqb c.column k) (used k u) p in
    rw x.0 (unused_append k u v x.1 q)

used_at : (k : ℕ) (cs : List Cell) → used k cs ≡ true
    → (p : ℕ) × (p < length cs) × At (λ c. c.column ≡ k) p cs
used_at k [] e = absurd (true_not_false (sym e))
used_at k (c ∷ cs) e = go (eqb c.column k) refl e (used_at k cs)
  where
    go : (b : Bool) → eqb c.column k ≡ b → (b || used k cs) ≡ true
        → (used k cs ≡ true → (p : ℕ) × (p < length cs) × At (λ c. c.column ≡ k) p cs)
        → (p : ℕ) × (p < suc (length cs)) × At (λ c. c.column ≡ k) p (c ∷ cs)
    go true q h ih = (0, omega arith, eqb-true c.column k q)
    go false q h ih = let z = ih h in (suc z.0, omega (arith, z.1), z.2)

-- cells none of which is past k up to d
still_of : (k d : ℕ) (hs : List Cell) → ((j : ℕ) → k < j → j ≤ d → used j hs ≡ false) → Still k d hs
still_of k d [] h = tt
still_of k d (c ∷ hs) h = (
  λ a b. true_not_false (sym (ap (λ (x : Bool). x || used c.column hs)
      (eq-eqb c.column c.column refl)) ∙ h c.column a b),
  still_of k d hs (λ j a b. (or_false (eqb c.column j) (used j hs) (h j a b)).1),
)

-- what the first p of the first b cells use, the first b cells use
unused_front : (j p b : ℕ) (cs : List Cell) → p ≤ b → used j (take b cs) ≡ false
    → used j (take p cs) ≡ false
unused_front j zero b cs h e = refl
unused_front j (suc p) zero cs h e = absurd (omega arith)
unused_front j (suc p) (suc b) [] h e = refl
unused_front j (suc p) (suc b) (c ∷ cs) h e = let q = or_false (eqb c.column j)
    (used j (take b cs)) e in rw q.0 (unused_front j p b cs (omega arith) q.1)

at_front : (P : Cell → Type 0) (p b : ℕ) (cs : List Cell) → At P p (take b cs) → At P p cs
at_front P p zero cs t = absurd t
at_front P p (suc b) [] t = absurd t
at_front P zero (suc b) (c ∷ cs) t = t
at_front P (suc p) (suc b) (c ∷ cs) t = at_front P p b cs t

-- more columns to be filled than there are cells to come
pub gap_replaceable : (g : Rules) (s n b p : ℕ) (cs : List Cell) → p ≤ b
    → n - b < lacking n false (take p cs) (take b cs) → Replaceable g s n b p cs
gap_replaceable g s n b p cs h l = record { twin = go }
  where
    go : (ds : List Cell) → Candidate (Among s) n ds → Shares b ds cs → TwoTrees g 0 (sentence ds)
        → Twin g s n p ds
    go ds k e two = slide_twin x.gap x.above.top g s n p y.0 ds x.low x.above.over
        k free still (at_front (λ c. c.column ≡ x.above.top) y.0 b ds y.2) two
      where
        few : 1 ≤ short (take p cs) (take b cs) n false (drop b ds)
        few = omega (
          arith,
          l,
          short_none (take p cs) (take b cs) n false,
          short_rest (take p cs)
              (take b cs) n false (drop b ds),
          length-drop b ds,
          k.arranged.size,
        )

        x : Spare (take p cs) (take b cs) (drop b ds)
        x = spare (take p cs) (take b cs) (drop b ds) n false (λ z. absurd (true_not_false (sym z)))
            few

        y : (q : ℕ) × (q < length (take b ds)) × At (λ c. c.column ≡ x.above.top) q (take b ds)
        y = used_at x.above.top (take b ds) (rw e x.above.there)

        free : Free x.gap ds
        free = unused_free x.gap ds (subst (λ (z : List Cell). used x.gap z ≡ false)
            (take-append-drop b ds) (unused_append x.gap (take b ds) (drop b ds) (rw e x.free)
            x.unfilled))

        held : take p ds ≡ take p cs
        held = shares_less p b ds cs h e

        still : Still x.gap x.above.top (take p ds)
        still = rw held (still_of x.gap x.above.top (take p cs) unheld)
          where
            unheld : (j : ℕ) → x.gap < j → j ≤ x.above.top → used j (take p cs) ≡ false
            unheld j a b' = elim (ℕ_discrete j x.above.top) [
              | yes q ↦ subst (λ (z : ℕ). used z (take p cs) ≡ false) (sym q) x.above.unheld
              | no q ↦ unused_front j p b cs h (x.above.between j a (omega arith))
            ]

-- ---- column by column

module _ (hs cs : List Cell) where
  pub lacking_used : (j : ℕ) (w v : Bool) → 0 < j → used j cs ≡ true → v ≡ not (used j hs)
      → lacking j w hs cs ≡ lacking (j - 1) v hs cs
  lacking_used zero w v h e f = absurd (omega arith)
  lacking_used (suc j) w v h e f = let q : suc j - 1 ≡ j = omega arith in rw (e, q, f)

  pub lacking_want : (j : ℕ) (w : Bool) → 0 < j → used j cs ≡ false → w ≡ true
      → lacking j w hs cs ≡ 1 + lacking (j - 1) w hs cs
  lacking_want zero w h e f = absurd (omega arith)
  lacking_want (suc j) w h e f = let q : suc j - 1 ≡ j = omega arith in rw (e, q, f)

  pub lacking_else : (j : ℕ) (w : Bool) → 0 < j → used j cs ≡ false → w ≡ false
      → lacking j w hs cs ≡ lacking (j - 1) w hs cs
  lacking_else zero w h e f = absurd (omega arith)
  lacking_else (suc j) w h e f = let q : suc j - 1 ≡ j = omega arith in rw (e, q, f) (omega arith)

  pub lacking_le : (j : ℕ) (w : Bool) → lacking j w hs cs ≤ j
  lacking_le zero w = omega arith
  lacking_le (suc j) w = go (lacking_le j) (used (suc j) cs) w
    where
      go : ((v : Bool) → lacking j v hs cs ≤ j) → (b w : Bool)
          → cond b (lacking j (not (used (suc j) hs)) hs cs) (cond w 1 0 + lacking j w hs cs)
          ≤ suc j
      go ih true w = omega (arith, ih (not (used (suc j) hs)))
      go ih false true = omega (arith, ih true)
      go ih false false = omega (arith, ih false)
