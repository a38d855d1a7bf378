-- A clause is tried with all left lengths: none, all, and those between.
use mathlib.Core.Path.{◌≡◌, subst}
use mathlib.Core.Logic.{◌⊎◌, inl, inr, ⊎_elim}
use mathlib.Core.List.{List}
use Prim.Native.Nat.{ℕ, ◌+◌, ◌-◌, ◌≤◌, ◌<◌}
use native.Mathlib.Omega.{arith}
use native.Mathlib.Decide.{ℕ_discrete}
use lib.ListN.{length}
use Rattle.sets.specs.Sets.{In}
use Rattle.grammar.specs.declared.Rule.{Rule}
use Rattle.grammar.specs.declared.BinaryMark.{BinaryMark}
use Rattle.grammar.specs.declared.Clause.{Clause}
use Rattle.marks.specs.declared.SpanMarks.{SpanMarks}
use Rattle.tables.specs.Tables.{One, by_marks, Fits, lefts}
use Rattle.tables.proofs.Views.{fits_le}
use Rattle.cuts.specs.Joining.{Joins}
use Rattle.cuts.proofs.JoinLaws.{joins_then, joins_as}
use Rattle.cut_tables.specs.Tables.{CutTable}
use Rattle.contained_spans.specs.Joining.{LeftKids, ClauseKids, CutKids}
use Rattle.contained_spans.specs.Counting.{CountTells, Plus}
use Rattle.contained_spans.specs.Seeing.{SeenAt}
use Rattle.contained_spans.specs.Trying.{TriedLeft, CutsSpread, ClauseSpread}
use Rattle.contained_spans.specs.Trying.{EndsSpread}
use Rattle.contained_spans.proofs.CountLaws.{tells_as, tells_same, tells_sum}
use Rattle.contained_spans.proofs.SeeLaws.{hits_inner, hit_fits, fits_hit, seen_kept}
use Rattle.contained_spans.proofs.SeeLaws.{bounded, seen_joins}

-- the left length, said otherwise
pub tried_at : {ws rs rs' : List ℕ} {n s len l r : ℕ} {k : SpanMarks} {c : Clause} (d : ℕ)
    → TriedLeft ws n s len k c l rs rs' r → l ≡ d → TriedLeft ws n s len k c d rs rs' r
tried_at {ws} {rs} {rs'} {n} {s} {len} {r = r} {k} {c} d t e =
    subst (λ (l : ℕ). TriedLeft ws n s len k c l rs rs' r) e t

-- a clause that can have no left word is tried once
pub spread_once : {ws rs rs' sn : List ℕ} {n s len r : ℕ} {k : SpanMarks} (c : Clause)
    → lefts c len ≡ 0 → length sn ≡ 4160 → (0 < len → SeenAt n s rs sn)
    → TriedLeft ws n s len k c 0 rs rs' r → ClauseSpread ws n s len k c rs rs' sn r
spread_once {ws} {n = n} {s} {len} {k = k} c e long v t = record {
  joins = joins_as (λ q B x. (0, x))
      (λ q B x. subst (λ (l : ℕ). LeftKids ws n s len k c l q B) (at x.0 x.1.0) x.1)
      t.joins;
  long = long;
  seen = λ p. seen_kept t.joins.keeps (v p);
  tells = tells_same (λ l x. x.1) (λ l x. (at l x, x)) t.tells;
}
  where
    at : (l : ℕ) → Fits (One ws n) (by_marks k len) s len c l → l ≡ 0
    at l x = let h = fits_le (One ws n) (by_marks k len) s len c l x in omega arith

-- a B clause over the empty word: so is it
pub spread_empty : {ws rs rs' sn : List ℕ} {n s len r b e : ℕ} {m : BinaryMark} {k : SpanMarks}
    → len ≡ 0 → length sn ≡ 4160
    → TriedLeft ws n s len k (Clause.Binary b e m) 0 rs rs' r
    → ClauseSpread ws n s len k (Clause.Binary b e m) rs rs' sn r
spread_empty {b = b} {e} {m} z long t =
    spread_once (Clause.Binary b e m) z long (λ p. absurd (omega arith)) t

abbrev FitAt : List ℕ → ℕ → ℕ → ℕ → SpanMarks → ℕ → ℕ → BinaryMark → ℕ → Type 0
FitAt ws n s len k b e m l = Fits (One ws n) (by_marks k len) s len (Clause.Binary b e m) l

-- over other words: with some tokens on the left, with none, and with all
module _ {ws cs rs rs₁ rs₂ sn' : List ℕ} {n s len b e z xy r : ℕ} {m : BinaryMark} {k : SpanMarks}
    (few : n ≤ 64) (bs : b < 64) (es : e < 64) (pos : 0 < len) (fit : s + len ≤ n)
    (t : CutTable ws n s cs) (some : CutsSpread cs n s len k b e m rs rs₁ sn' z)
    (ends : EndsSpread ws n s len b e rs₁ rs₂ xy) (q : Plus z xy r) where
  none : TriedLeft ws n s len k (Clause.Binary b e m) 0 rs₁ ends.between ends.first
  none = ends.none k m

  all : TriedLeft ws n s len k (Clause.Binary b e m) len ends.between rs₂ ends.second
  all = ends.all k m

  -- with some
  between : (l : ℕ) → FitAt ws n s len k b e m l → (l ≡ 0) ⊎ ((l ≡ len) ⊎ ((0 < l) × (l < len)))
  between l f = go (ℕ_discrete l 0) (ℕ_discrete l len)
    where
      go : Dec (l ≡ 0) → Dec (l ≡ len) → (l ≡ 0) ⊎ ((l ≡ len) ⊎ ((0 < l) × (l < len)))
      go (yes a) d = inl a
      go (no a) (yes c) = inr (inl c)
      go (no a) (no c) = inr (inr (omega arith, omega (arith, f.0)))

  hit : (l : ℕ) → 0 < l → l < len → FitAt ws n s len k b e m l → In some.set (s + l)
  hit = fits_hit few t bs es pos fit some.hits

  fits : (c : ℕ) → In some.set c → (s < c) × (c < s + len) × FitAt ws n s len k b e m (c - s)
  fits c i = let w = hits_inner (bounded t) bs es pos fit some.hits c i in
      (w.0, w.1, hit_fits few t bs es pos fit some.hits c i)

  middle : CountTells (λ (l : ℕ). (0 < l) × (l < len) × FitAt ws n s len k b e m l) z
  middle = tells_as (λ (c : ℕ). c - s) (λ (l : ℕ). s + l)
      (λ c i. let w = fits c i in (omega (arith, w.0), omega (arith, w.0, w.1), w.2))
      (λ l f. hit l f.0 f.1 f.2)
      (λ c d i j u. omega (arith, (fits c i).0, (fits d j).0, u)) (λ l o f h u. omega arith)
      some.tells

  counted : CountTells (FitAt ws n s len k b e m) r
  counted =
      tells_same (λ l f. ⊎_elim (λ g. g.2) (λ g. ⊎_elim (λ h. h.1) (λ h. h.1) g) f)
      (λ l f. sort l f (between l f))
      (tells_sum z xy r (λ l g f. ⊎_elim (λ h. omega (arith, h.0, g.0))
      (λ h. omega (arith, h.0, g.1)) f) q middle
      (tells_sum ends.first ends.second xy (λ l f g. omega (arith, f.0, g.0, pos))
      ends.plus none.tells all.tells))
    where
      sort : (l : ℕ) → FitAt ws n s len k b e m l → (l ≡ 0) ⊎ ((l ≡ len) ⊎ ((0 < l) × (l < len)))
          → ((0 < l) × (l < len) × FitAt ws n s len k b e m l)
          ⊎ (((l ≡ 0) × FitAt ws n s len k b e m l) ⊎ ((l ≡ len) × FitAt ws n s len k b e m l))
      sort l f (inl a) = inr (inl (a, f))
      sort l f (inr (inl a)) = inr (inr (a, f))
      sort l f (inr (inr a)) = inl (a.0, a.1, f)

  joined : Joins (ClauseKids ws n s len k (Clause.Binary b e m)) rs rs₂
  joined =
      joins_as (λ a B g. ⊎_elim (λ h. (h.0 - s, ((fits h.0 h.1).2, h.2)))
      (λ h. ⊎_elim (λ i. (0, i)) (λ i. (len, i)) h) g)
      (λ a B g. sort a B g (between g.0 g.1.0))
      (joins_then some.joins (joins_then none.joins all.joins))
    where
      K : ℕ → ℕ → ℕ → Type 0
      K l a B = LeftKids ws n s len k (Clause.Binary b e m) l a B

      sort : (a B : ℕ) (g : ClauseKids ws n s len k (Clause.Binary b e m) a B)
          → (g.0 ≡ 0) ⊎ ((g.0 ≡ len) ⊎ ((0 < g.0) × (g.0 < len)))
          → CutKids n s len (Clause.Binary b e m) some.set a B ⊎ (K 0 a B ⊎ K len a B)
      sort a B g (inl h) = inr (inl (subst (λ (l : ℕ). K l a B) h g.1))
      sort a B g (inr (inl h)) = inr (inr (subst (λ (l : ℕ). K l a B) h g.1))
      sort a B g (inr (inr h)) =
          inl (
            s + g.0,
            hit g.0 h.0 h.1 g.1.0,
            (subst (λ (l : ℕ). K l a B) (let u : g.0 ≡ s + g.0 - s = omega arith in u) g.1).1,
          )

  pub spread-binary : ClauseSpread ws n s len k (Clause.Binary b e m) rs rs₂ sn' r
  spread-binary = record {
    joins = joined;
    long = some.seen.columns.long;
    seen = λ h. seen_joins all.joins (seen_joins none.joins some.seen);
    tells = counted;
  }

-- a rule that is read in two ways
pub spread_rule : {ws rs rs' sn : List ℕ} {n s len x : ℕ} {k : SpanMarks} {r r' : Rule} → r ≡ r'
    → ClauseSpread ws n s len k r.clause rs rs' sn x
    → ClauseSpread ws n s len k r'.clause rs rs' sn x
spread_rule {ws} {rs} {rs'} {sn} {n} {s} {len} {x} {k} e t =
    subst (λ (r : Rule). ClauseSpread ws n s len k r.clause rs rs' sn x) e t
