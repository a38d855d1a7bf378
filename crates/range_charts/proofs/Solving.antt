-- Spans are solved one after the other: what is solved stays so while other pairs are written.
use mathlib.Core.Path.{◌≡◌, refl, sym, ap, ◌∙◌, subst, subst₂}
use mathlib.Core.List.{List}
use mathlib.Core.Logic.{◌⊎◌, inl, inr, ⊎_elim}
use Prim.Native.Nat.{ℕ, ◌+◌, ◌-◌, ◌*◌, ◌≤◌, ◌<◌}
use native.Mathlib.Omega.{arith}
use native.Mathlib.Decide.{ℕ_discrete, dec_lt}
use lib.ListN.{get_or}
use Rattle.sets.specs.Sets.{In}
use Rattle.grammar.specs.declared.Clause.{Clause}
use Rattle.grammar.specs.declared.UnaryMark.TheVariants as UnaryMark
use Rattle.grammar.specs.Trees.{Rules}
use Rattle.grammar.specs.SpanSheet.{pairs, pair_at, first_word, second_word}
use Rattle.marks.specs.declared.SpanMarks.{SpanMarks}
use Rattle.marks.specs.Marked.{UnaryBy}
use Rattle.spans.specs.Changes.{Past, Kept}
use Rattle.spans.proofs.Places.{pair_at_same, pair_at_empty}
use Rattle.spans.proofs.ChangeLaws.{kept_past}
use Rattle.tables.specs.Tables.{One, Two, by_marks, Fits, Below, rule}
use Rattle.cuts.specs.declared.Pair.{Pair}
use Rattle.cuts.specs.Cuts.{Parted, Splits}
use Rattle.cuts.specs.Closure.{Closure}
use Rattle.cuts.proofs.CountLaws.{counts_view}
use Rattle.chains.specs.SpanLinks.{span_links}
use Rattle.filling.specs.Closing.{Begins, CutJoins}
use Rattle.filling.proofs.ClosingLaws.{cut_closure}
use Rattle.column_ranges.specs.Ranges.{Ranges}
use Rattle.range_marks.specs.RangeMarks.{RangeMarked}
use Rattle.range_charts.specs.RangeCharts.{pair_of, Solved, SpanSolved, SolvedFrom, Small}
use Rattle.range_charts.specs.RangeCharts.{Advances, Solves}

-- ---- pairs that are as they were

-- the pairs of the span and of its parts are
pub record SamePairs (ws ws' : List ℕ) (n s len : ℕ) : Type 0 where
  pub first : (a b : ℕ) → s ≤ a → a + b ≤ s + len → first_word ws' n a b ≡ first_word ws n a b
  pub second : (a b : ℕ) → s ≤ a → a + b ≤ s + len → second_word ws' n a b ≡ second_word ws n a b

-- of the parts alone
pub record SameParts (ws ws' : List ℕ) (n s len : ℕ) : Type 0 where
  pub first : (a b : ℕ) → s ≤ a → a + b ≤ s + len → b < len
      → first_word ws' n a b ≡ first_word ws n a b
  pub second : (a b : ℕ) → s ≤ a → a + b ≤ s + len → b < len
      → second_word ws' n a b ≡ second_word ws n a b

pub other_first : (ws ws' : List ℕ) (n s len a b : ℕ) → s + len ≤ n → a + b ≤ n → 0 < len
    → Kept ws ws' (pair_at n s len) → ((b ≡ len) × (a ≡ s) → ⊥)
    → first_word ws' n a b ≡ first_word ws n a b
other_first ws ws' n s len a b fit in-n pos k d =
    k.rest (2 * pair_at n a b) (λ e. other (omega arith)) (λ e. omega arith)
  where
    other : pair_at n a b ≡ pair_at n s len → ⊥
    other e = let z = pair_at_same n a b s len in-n fit e in
        d (z.0, ⊎_elim (λ x. absurd (omega (arith, z.0))) (λ x. x) z.1)

pub other_second : (ws ws' : List ℕ) (n s len a b : ℕ) → s + len ≤ n → a + b ≤ n → 0 < len
    → Kept ws ws' (pair_at n s len) → ((b ≡ len) × (a ≡ s) → ⊥)
    → second_word ws' n a b ≡ second_word ws n a b
other_second ws ws' n s len a b fit in-n pos k d =
    k.rest (2 * pair_at n a b + 1) (λ e. omega arith) (λ e. other (omega arith))
  where
    other : pair_at n a b ≡ pair_at n s len → ⊥
    other e = let z = pair_at_same n a b s len in-n fit e in
        d (z.0, ⊎_elim (λ x. absurd (omega (arith, z.0))) (λ x. x) z.1)

-- the pair of the empty word stands first
empty_first : (ws : List ℕ) (n s : ℕ) → first_word ws n s 0 ≡ get_or ws 0 0
empty_first ws n s = ap (λ (q : ℕ). get_or ws (2 * q) 0) (pair_at_empty n s)

empty_second : (ws : List ℕ) (n s : ℕ) → second_word ws n s 0 ≡ get_or ws 1 0
empty_second ws n s = ap (λ (q : ℕ). get_or ws (2 * q + 1) 0) (pair_at_empty n s)

-- ---- a solved span, by other words

module _ (ws ws' : List ℕ) (g : Rules) (n s len : ℕ) (k : SpanMarks)
    (x : SameParts ws ws' n s len) where
  to : {p q : ℕ} (A : ℕ) → p ≡ q → In p A → In q A
  to A e i = subst (λ (z : ℕ). In z A) e i

  fits_there : (l : ℕ) → 0 < l → l < len → (c : Clause) → Fits (One ws n) (by_marks k len) s len c l
      → Fits (One ws' n) (by_marks k len) s len c l
  fits_there l a b Clause.Empty q = absurd (omega (arith, q.1))
  fits_there l a b (Clause.Atom c d) q = absurd (omega (arith, q.1))
  fits_there l a b (Clause.Unary B m) q = absurd (omega (arith, q.2))
  fits_there l a b (Clause.Binary B C m) q = (
    q.0,
    to B (sym (x.first s l (omega arith) (omega arith) b)) q.1,
    to C
        (sym (x.first (s + l) (len - l) (omega arith) (omega arith) (omega arith))) q.2,
    q.3,
  )

  fits_back : (l : ℕ) → 0 < l → l < len → (c : Clause) → Fits (One ws' n) (by_marks k len) s len c l
      → Fits (One ws n) (by_marks k len) s len c l
  fits_back l a b Clause.Empty q = absurd (omega (arith, q.1))
  fits_back l a b (Clause.Atom c d) q = absurd (omega (arith, q.1))
  fits_back l a b (Clause.Unary B m) q = absurd (omega (arith, q.2))
  fits_back l a b (Clause.Binary B C m) q = (
    q.0,
    to B (x.first s l (omega arith) (omega arith) b) q.1,
    to C
        (x.first (s + l) (len - l) (omega arith) (omega arith) (omega arith)) q.2,
    q.3,
  )

  below_there : (l : ℕ) → 0 < l → l < len → (c : Clause)
      → Fits (One ws n) (by_marks k len) s len c l
      → Below (Two ws n) s len c l → Below (Two ws' n) s len c l
  below_there l a b Clause.Empty q r = r
  below_there l a b (Clause.Atom c d) q r = r
  below_there l a b (Clause.Unary B m) q r = absurd (omega (arith, q.2))
  below_there l a b (Clause.Binary B C m) q r = ⊎_elim
      (λ z. inl (to B (sym (x.second s l (omega arith) (omega arith) b)) z))
      (λ z. inr (to C (sym (x.second (s + l) (len - l) (omega arith) (omega arith)
      (omega arith))) z)) r

  below_back : (l : ℕ) → 0 < l → l < len → (c : Clause)
      → Fits (One ws' n) (by_marks k len) s len c l
      → Below (Two ws' n) s len c l → Below (Two ws n) s len c l
  below_back l a b Clause.Empty q r = r
  below_back l a b (Clause.Atom c d) q r = r
  below_back l a b (Clause.Unary B m) q r = absurd (omega (arith, q.2))
  below_back l a b (Clause.Binary B C m) q r = ⊎_elim
      (λ z. inl (to B (x.second s l (omega arith) (omega arith) b) z))
      (λ z. inr (to C (x.second (s + l) (len - l) (omega arith) (omega arith) (omega arith))
      z)) r

  pub splits_same : (p : Pair) → Splits ws n s len k g p → Splits ws' n s len k g p
  splits_same = counts_view (Parted ws n s len k g) (Parted ws' n s len k g)
      (λ i l. Below (Two ws n) s len (rule g i).clause l)
      (λ i l. Below (Two ws' n) s len (rule g i).clause l) (λ l. l) (λ l. l)
      (λ A i l q. record {
        nonempty = q.nonempty;
        rest = q.rest;
        stand = record {
          within = q.stand.within;
          left = q.stand.left;
          fits = fits_there l q.nonempty
              q.rest (rule g i).clause q.stand.fits;
        };
      })
      (λ A i l q. record {
        nonempty = q.nonempty;
        rest = q.rest;
        stand = record {
          within = q.stand.within;
          left = q.stand.left;
          fits = fits_back l
              q.nonempty q.rest (rule g i).clause q.stand.fits;
        };
      })
      (λ A i l q. below_there l q.nonempty q.rest
      (rule g i).clause q.stand.fits)
      (λ A i l q. below_back l q.nonempty q.rest
      (rule g i).clause q.stand.fits)
      (λ A i a j b y z e. e) (λ A i a j b y z e. e)

  closure_same : 0 < len → (p t : Pair)
      → Closure (span_links g (UnaryBy k) (get_or ws 0 0) (get_or ws 1 0)) p t
      → Closure (span_links g (UnaryBy k) (get_or ws' 0 0) (get_or ws' 1 0)) p t
  closure_same pos p t = subst₂ (λ (a b : ℕ). Closure (span_links g (UnaryBy k) a b) p t)
      (sym (empty_first ws n s) ∙ sym (x.first s 0 (omega arith) (omega arith) pos)
      ∙ empty_first ws' n s) (sym (empty_second ws n s)
      ∙ sym (x.second s 0 (omega arith) (omega arith) pos) ∙ empty_second ws' n s)

  -- what was found over the span is written
  pub solved_wrote : 0 < len → (p t : Pair) → Splits ws n s len k g p
      → Closure (span_links g (UnaryBy k) (get_or ws 0 0) (get_or ws 1 0)) p t
      → first_word ws' n s len ≡ t.one → second_word ws' n s len ≡ t.two
      → Solved ws' g n s len k
  solved_wrote pos p t sp cl e f = record {
    inner = p;
    splits = splits_same p sp;
    closure =
        subst₂ (λ (a b : ℕ). Closure (span_links g (UnaryBy k) (get_or ws' 0 0) (get_or ws' 1 0)) p
        (record { one = a; two = b })) (sym e) (sym f) (closure_same pos p t cl);
  }

-- the pairs of the span and of its parts are as they were
pub solved_same : (ws ws' : List ℕ) (g : Rules) (n s len : ℕ) (k : SpanMarks) → 0 < len
    → SamePairs ws ws' n s len → Solved ws g n s len k → Solved ws' g n s len k
solved_same ws ws' g n s len k pos x y =
    solved_wrote ws ws' g n s len k
    (record { first = λ a b l f d. x.first a b l f; second = λ a b l f d. x.second a b l f })
    pos y.inner (pair_of ws n s len) y.splits y.closure
    (x.first s len (omega arith) (omega arith))
    (x.second s len (omega arith) (omega arith))

-- ---- one span more

-- single has offside with it
single_offside : {rs : Ranges} {s len : ℕ} {k : SpanMarks} → RangeMarked rs s len k
    → UnaryBy k UnaryMark.Single → UnaryBy k UnaryMark.Offside
single_offside m x = (m.unary UnaryMark.Offside).1
    (record {
      keeps =
          λ i a b z. absurd (let y = ((m.unary UnaryMark.Single).0 x).keeps i a b in omega arith);
    })

module _ (ws ws' : List ℕ) (g : Rules) (rs : Ranges) (n s len : ℕ) (k : SpanMarks) (long : 2 ≤ len)
    (fit : s + len ≤ n) (m : RangeMarked rs s len k) (j : CutJoins ws ws' g n s len k) where
  parts : SameParts ws ws' n s len
  parts = record {
    first = λ a b x y l. other_first ws ws' n s len a b fit (omega arith) (omega arith)
        j.wrote.kept (λ e. omega (arith, e.0));
    second = λ a b x y l. other_second ws ws' n s len a b fit (omega arith) (omega arith)
        j.wrote.kept (λ e. omega (arith, e.0));
  }

  here : SpanSolved ws' g rs n s len
  here = record {
    marks = k;
    marked = m;
    solved = solved_wrote ws ws' g n s len k parts (omega arith) j.inner j.last j.splits
        (cut_closure ws ws' g n s len k (single_offside m) j) j.wrote.first j.wrote.second;
  }

  -- a span solved before, of which the span that is written is no part
  old : (a b : ℕ) → 2 ≤ b → a + b ≤ n
      → ((c d : ℕ) → a ≤ c → c + d ≤ a + b → (d ≡ len) × (c ≡ s) → ⊥)
      → SpanSolved ws g rs n a b → SpanSolved ws' g rs n a b
  old a b two in-n apart y = record {
    marks = y.marks;
    marked = y.marked;
    solved = solved_same ws ws' g n a b y.marks (omega arith) (record {
      first = λ c d x z. other_first ws ws' n s len c d fit (omega arith) (omega arith)
          j.wrote.kept (apart c d x z);
      second = λ c d x z. other_second ws ws' n s len c d fit (omega arith) (omega arith)
          j.wrote.kept (apart c d x z);
    }) y.solved;
  }

  pub from_more : (from : ℕ) → from < s + len → SolvedFrom ws g rs n from s len
      → SolvedFrom ws' g rs n from s (len + 1)
  from_more from far f = record {
    each = λ a b two in-n p. go a b two in-n p (ℕ_discrete a s) (ℕ_discrete b len);
    early = λ a b two in-n h. old a b two in-n (λ c d x z e. omega (arith, e.0, e.1))
        (f.early a b two in-n h);
  }
    where
      apart : (a b c d : ℕ) → a ≤ c → c + d ≤ a + b → (s < a) ⊎ ((a ≡ s) × (b < len))
          → (d ≡ len) × (c ≡ s) → ⊥
      apart a b c d x z (inl q) e = omega (arith, e.1)
      apart a b c d x z (inr q) e = omega (arith, e.0, e.1, q.0, q.1)

      before : (a b : ℕ) → 2 ≤ b → a + b ≤ n → (s < a) ⊎ ((a ≡ s) × (b < len))
          → SpanSolved ws' g rs n a b
      before a b two in-n p = old a b two in-n (λ c d x z e. apart a b c d x z p e)
          (f.each a b two in-n p)

      go : (a b : ℕ) → 2 ≤ b → a + b ≤ n → (s < a) ⊎ ((a ≡ s) × (b < len + 1)) → Dec (a ≡ s)
          → Dec (b ≡ len) → SpanSolved ws' g rs n a b
      go a b two in-n (inl q) d e = before a b two in-n (inl q)
      go a b two in-n (inr q) (yes d) (yes e) = subst₂ (SpanSolved ws' g rs n) (sym d) (sym e) here
      go a b two in-n (inr q) (yes d) (no e) = before a b two in-n (inr (d, omega (arith, q.1)))
      go a b two in-n (inr q) (no d) e = absurd (d q.0)

  pub small_more : Small ws ws' n
  small_more = record {
    first = λ a b in-n l. other_first ws ws' n s len a b fit in-n (omega arith) j.wrote.kept
        (λ e. omega (arith, e.0));
    second = λ a b in-n l. other_second ws ws' n s len a b fit in-n (omega arith) j.wrote.kept
        (λ e. omega (arith, e.0));
  }

  pub past_wrote : Past (2 * pairs n) ws ws'
  past_wrote = kept_past n s len fit j.wrote.kept

pub small_same : (ws : List ℕ) (n : ℕ) → Small ws ws n
small_same ws n = record { first = λ a b x y. refl; second = λ a b x y. refl }

pub small_then : {ws ws' ws'' : List ℕ} {n : ℕ} → Small ws ws' n → Small ws' ws'' n
    → Small ws ws'' n
small_then f g = record {
  first = λ a b x y. g.first a b x y
      ∙ f.first a b x y;
  second = λ a b x y. g.second a b x y ∙ f.second a b x y;
}

-- the empty word's pair
pub small_empty : {ws ws' : List ℕ} {e : Pair} (n : ℕ) → Small ws ws' n → Begins ws e → Begins ws' e
small_empty {ws} {ws'} n x b = record {
  one = sym (empty_first ws' n 0) ∙ x.first 0 0 (omega arith) (omega arith) ∙ empty_first ws n 0
      ∙ b.one;
  two = sym (empty_second ws' n 0) ∙ x.second 0 0 (omega arith) (omega arith) ∙ empty_second ws n 0
      ∙ b.two;
}

-- ---- from start to start

pub from_next : {ws : List ℕ} {g : Rules} {rs : Ranges} {n from s : ℕ}
    → SolvedFrom ws g rs n from (s + 1) (n + 1) → SolvedFrom ws g rs n from s 2
from_next {ws} {g} {rs} {n} {from} {s} f = record {
  each = λ a b two in-n p. f.each a b two in-n (go a b two in-n p (dec_lt (s + 1) a));
  early = f.early;
}
  where
    go : (a b : ℕ) → 2 ≤ b → a + b ≤ n → (s < a) ⊎ ((a ≡ s) × (b < 2)) → Dec (s + 1 < a)
        → (s + 1 < a) ⊎ ((a ≡ s + 1) × (b < n + 1))
    go a b two in-n (inl q) (yes d) = inl d
    go a b two in-n (inl q) (no d) = inr (omega arith, omega arith)
    go a b two in-n (inr q) d = absurd (omega (arith, q.1))

-- a span that ends at or before `from` is left as it is
pub from_pass : {ws : List ℕ} {g : Rules} {rs : Ranges} {n from s len : ℕ} → s + len ≤ from
    → SolvedFrom ws g rs n from s len → SolvedFrom ws g rs n from s (len + 1)
from_pass {ws} {g} {rs} {n} {from} {s} {len} h f =
    record { each = λ a b two in-n p. go a b two in-n p (ℕ_discrete b len); early = f.early }
  where
    go : (a b : ℕ) → 2 ≤ b → a + b ≤ n → (s < a) ⊎ ((a ≡ s) × (b < len + 1)) → Dec (b ≡ len)
        → SpanSolved ws g rs n a b
    go a b two in-n (inl q) d = f.each a b two in-n (inl q)
    go a b two in-n (inr q) (yes d) = f.early a b two in-n (omega (arith, q.0))
    go a b two in-n (inr q) (no d) = f.each a b two in-n (inr (q.0, omega (arith, q.1)))

pub from_end : {ws : List ℕ} {g : Rules} {rs : Ranges} {n from s len : ℕ} → n < s + len
    → SolvedFrom ws g rs n from s len → SolvedFrom ws g rs n from s (n + 1)
from_end h f = record {
  each = λ a b two in-n p. f.each a b two in-n
      (⊎_elim inl (λ q. inr (q.0, omega (arith, q.0))) p);
  early = f.early;
}

pub from_none : (ws : List ℕ) (g : Rules) (rs : Ranges) (n : ℕ) → SolvedFrom ws g rs n 0 n (n + 1)
from_none ws g rs n = record {
  each = λ a b two in-n p. ⊎_elim (λ q. absurd (omega arith))
      (λ q. absurd (omega (arith, q.0))) p;
  early = λ a b two in-n h. absurd (omega arith);
}

pub advanced_all : {ws ws' : List ℕ} {g : Rules} {rs : Ranges} {n from : ℕ}
    → Advances ws ws' g rs n from 0 → Solves ws ws' g rs n
advanced_all {ws} {ws'} {g} {rs} {n} {from} x = record {
  each = λ a b two in-n. x.solved.each a b two in-n (go a b in-n (ℕ_discrete a 0));
  small = x.small;
  past = x.past;
}
  where
    go : (a b : ℕ) → a + b ≤ n → Dec (a ≡ 0) → (0 < a) ⊎ ((a ≡ 0) × (b < n + 1))
    go a b in-n (yes e) = inr (e, omega arith)
    go a b in-n (no e) = inl (omega arith)
