-- A sheet whose spans are solved under marks says what has trees: of a word that leaves to a clause
-- at least what the marks do it has nothing too much, of one that leaves at most that it misses
-- nothing.
use mathlib.Core.Path.{◌≡◌, refl, sym, ◌∙◌, subst}
use mathlib.Core.List.{List}
use mathlib.Core.Logic.{inl, inr, ⊎_elim}
use Prim.Native.Nat.{ℕ, zero, suc, ◌+◌, ◌≤◌, ◌<◌}
use native.Mathlib.Omega.{arith}
use native.Mathlib.Decide.{dec_lt}
use lib.ListN.{length}
use Rattle.grammar.specs.Layout.{Word}
use Rattle.grammar.specs.Trees.{Rules, Derives, TwoTrees}
use Rattle.grammar.specs.Distinct.{Distinct}
use Rattle.grammar.specs.SpanSheet.{part}
use Rattle.marks.specs.declared.SpanMarks.{SpanMarks}
use Rattle.marks.specs.Half.{token_at}
use Rattle.marks.proofs.HalfLaws.{completes_self}
use Rattle.tables.specs.Tables.{One, Two, by_tokens, by_marks, Stand, Again}
use Rattle.tables.specs.Settled.{Told, Settled}
use Rattle.tables.proofs.Views.{Yields, stand_view, again_view}
use Rattle.tables.proofs.Completeness.{complete, same}
use Rattle.chart.specs.Leaves.{LeafAt}
use Rattle.chart.specs.Sheets.{Exact, Ready}
use Rattle.chart.proofs.OpenLaws.{open_none}
use Rattle.chart.proofs.SheetLaws.{begun}
use Rattle.filling.proofs.SettleLaws.{follows_true, doubles_true, each, again}
use Rattle.column_ranges.specs.Ranges.{Ranges, Chosen}
use Rattle.column_ranges.specs.RangeSentences.{range}
use Rattle.narrowing.specs.Narrowing.{Singles}
use Rattle.narrowing.proofs.Choices.{chosen_long, chosen_at}
use Rattle.range_marks.specs.RangeMarks.{whole, exchanged_all}
use Rattle.range_marks.proofs.Bounds.{marks_over, marks_under, exchanged_single}
use Rattle.range_charts.specs.RangeCharts.{pair_of, Solved, SpanSolved, Leaved}

-- ---- the pairs of single tokens and of the empty word

pub small_settled : {g : Rules} {rs : Ranges} {n : ℕ} {ws : List ℕ} (w : Word) → Distinct g
    → length w ≡ n → ((i : ℕ) → i < n → (token_at w i).terminal ≡ (range rs i).terminal)
    → Leaved g rs n ws → (a b : ℕ) → a + b ≤ n → b < 2
    → Settled (One ws n) (Two ws n) g (whole w) a b
small_settled {g} {rs} {n} {ws} w distinct long terminal l a b fit two =
    (begun ws g (whole w) n 0 n distinct (omega arith) ready).done a b fit (inr (inl two))
  where
    ready : Ready g (whole w) n ws 0 n
    ready = record {
      low = omega arith;
      high = omega arith;
      within = omega arith;
      right = l.empty w;
      leaves = λ i h. let j : i < n = omega (arith, long) in
          subst (LeafAt g n ws i) (sym (terminal i j)) (l.leaves i j);
      beyond = open_none g n ws n (omega arith);
    }

-- ---- nothing too much

-- what the words have of a span has trees in w
pub record True (g : Rules) (w : Word) (n : ℕ) (ws : List ℕ) (s len : ℕ) : Type 0 where
  pub one : (A : ℕ) → One ws n s len A → Derives g A (part w s len)
  pub two : (A : ℕ) → Two ws n s len A → TwoTrees g A (part w s len)

-- a span is solved under marks that leave no more than w does
pub record Under (g : Rules) (w : Word) (n : ℕ) (ws : List ℕ) (s len : ℕ) : Type 0 where
  pub marks : SpanMarks
  pub yields : Yields (by_marks marks len) (by_tokens (whole w) s len) len
  pub solved : Solved ws g n s len marks

module _ (g : Rules) (w : Word) (n : ℕ) (ws : List ℕ) (distinct : Distinct g) (long : length w ≡ n)
    (small : (a b : ℕ) → a + b ≤ n → b < 2 → Settled (One ws n) (Two ws n) g (whole w) a b)
    (under : (s len : ℕ) → 2 ≤ len → s + len ≤ n → Under g w n ws s len) where
  true_small : (s len : ℕ) → s + len ≤ n → len < 2 → True g w n ws s len
  true_small s len fit h = let t = small s len fit h in
      record { one = λ A. t.derived A (omega arith); two = λ A. t.more A (omega arith) }

  true_long : (s len : ℕ) → 2 ≤ len → s + len ≤ n
      → ((a b : ℕ) → b < len → a + b ≤ n → True g w n ws a b) → True g w n ws s len
  true_long s len h fit ih =
      let u = under s len h fit in
      let y = u.solved in
      let sound : (a b A : ℕ) → s ≤ a → a + b ≤ s + len → b < len → One ws n a b A
      → Derives g A (part w a b) = λ a b A x y z. (ih a b z (omega arith)).one A in
      let sound₂ : (a b A : ℕ) → s ≤ a → a + b ≤ s + len → b < len → Two ws n a b A
      → TwoTrees g A (part w a b) = λ a b A x y z. (ih a b z (omega arith)).two A in
      record {
        one = λ A m. follows_true ws g n s len u.marks y.inner fit h y.splits (whole w)
            distinct (omega arith) (omega arith) u.yields sound sound₂ ((y.closure.one A).0 m);
        two = λ A m. doubles_true ws g n s len u.marks y.inner fit h y.splits (whole w)
            distinct (omega arith) (omega arith) u.yields sound sound₂ ((y.closure.two A).0 m);
      }

  true_upto : (m s len : ℕ) → len < m → s + len ≤ n → True g w n ws s len
  true_upto zero s len h fit = absurd (omega arith)
  true_upto (suc m) s len h fit = go (dec_lt len 2) (λ a b l f. true_upto m a b (omega arith) f)
    where
      go : Dec (len < 2) → ((a b : ℕ) → b < len → a + b ≤ n → True g w n ws a b)
          → True g w n ws s len
      go (yes l) ih = true_small s len fit l
      go (no l) ih = true_long s len (omega arith) fit ih

  pub true_all : (s len : ℕ) → s + len ≤ n → True g w n ws s len
  true_all s len fit = true_upto (suc len) s len (omega arith) fit

-- ---- nothing missed

-- what has trees in w over a span is in the words
pub record Full (g : Rules) (w : Word) (n : ℕ) (ws : List ℕ) (s len : ℕ) : Type 0 where
  pub one : (A : ℕ) → Derives g A (part w s len) → One ws n s len A
  pub two : (A : ℕ) → TwoTrees g A (part w s len) → Two ws n s len A

-- a span is solved under marks that leave no less than w does
pub record Over (g : Rules) (w : Word) (n : ℕ) (ws : List ℕ) (s len : ℕ) : Type 0 where
  pub marks : SpanMarks
  pub yields : Yields (by_tokens (whole w) s len) (by_marks marks len) len
  pub solved : Solved ws g n s len marks

module _ (g : Rules) (w : Word) (n : ℕ) (ws : List ℕ) (long : length w ≡ n)
    (small : (a b : ℕ) → a + b ≤ n → b < 2 → Settled (One ws n) (Two ws n) g (whole w) a b)
    (over : (s len : ℕ) → 2 ≤ len → s + len ≤ n → Over g w n ws s len) where
  shut : (s len A i l : ℕ) → s + len ≤ length w → Told (whole w) s len
      → Stand (One ws n) g (by_tokens (whole w) s len) s len A i l → One ws n s len A
  shut s len A i l fit u c = go (dec_lt len 2)
    where
      go : Dec (len < 2) → One ws n s len A
      go (yes h) = (small s len (omega arith) h).each A i l u c
      go (no h) =
          let o = over s len (omega arith) (omega arith) in
          let y = o.solved in
          each ws g n s len o.marks y.inner (omega arith) (omega arith) y.splits ws
          (pair_of ws n s len) y.closure
          (record {
            kept = record { long = refl; rest = λ q a b. refl };
            first = refl;
            second = refl;
          }) A i l (stand_view (One ws n) g (by_tokens (whole w) s len)
          (by_marks o.marks len) s len A i l o.yields c)

  shut₂ : (s len A : ℕ) → s + len ≤ length w → Told (whole w) s len
      → Again (One ws n) (Two ws n) g (by_tokens (whole w) s len) s len A → Two ws n s len A
  shut₂ s len A fit u c = go (dec_lt len 2)
    where
      go : Dec (len < 2) → Two ws n s len A
      go (yes h) = (small s len (omega arith) h).again A u c
      go (no h) =
          let o = over s len (omega arith) (omega arith) in
          let y = o.solved in
          again ws g n s len o.marks y.inner (omega arith) (omega arith) y.splits ws
          (pair_of ws n s len) y.closure
          (record {
            kept = record { long = refl; rest = λ q a b. refl };
            first = refl;
            second = refl;
          }) A (again_view (One ws n) (Two ws n) g
          (by_tokens (whole w) s len) (by_marks o.marks len) s len A o.yields c)

  pub full_all : (s len : ℕ) → s + len ≤ n → Full g w n ws s len
  full_all s len fit = record {
    one = λ A d. subst (λ (B : ℕ). One ws n s len B) d.witness.rooted
        (complete (One ws n) g (whole w) shut w (completes_self (whole w)) (length w) (omega arith)
        (λ i B x y. absurd (omega arith)) d.tree d.witness.valid s len (omega arith)
        d.witness.spelled);
    two = λ A d. subst (λ (B : ℕ). Two ws n s len B) d.witness₁.rooted
        (⊎_elim (λ e. absurd (d.differ e)) (λ q. q)
        (same (One ws n) (Two ws n) g (whole w) shut shut₂ w (completes_self (whole w)) (length w)
        (omega arith) (λ i B x y. absurd (omega arith)) (λ i B x y. absurd (omega arith))
        d.first d.witness₁.valid s len (omega arith) d.second d.witness₂.valid
        (d.witness₁.rooted ∙ sym d.witness₂.rooted) d.witness₁.spelled
        d.witness₂.spelled));
  }

-- ---- the choices within the ends of ranges

module _ {g : Rules} {rs : Ranges} {n : ℕ} {ws : List ℕ} (w : Word) (distinct : Distinct g)
    (size : length rs ≡ n) (c : Chosen rs w) (leaved : Leaved g rs n ws) where
  settled : (a b : ℕ) → a + b ≤ n → b < 2 → Settled (One ws n) (Two ws n) g (whole w) a b
  settled = small_settled w distinct (chosen_long rs w c ∙ size)
      (λ i h. (chosen_at rs w c i (omega arith)).terminal) leaved

  -- the sheet of the ranges misses nothing of a choice
  pub may_hold : ((a b : ℕ) → 2 ≤ b → a + b ≤ n → SpanSolved ws g rs n a b) → (s len : ℕ)
      → s + len ≤ n → Full g w n ws s len
  may_hold y = full_all g w n ws (chosen_long rs w c ∙ size) settled
      (λ s len h fit. let z = y s len h fit in
      record {
        marks = z.marks;
        yields =
            marks_over rs w s len z.marks c h (omega arith) z.marked;
        solved = z.solved;
      })

  -- that of the ranges with their ends exchanged has nothing too much
  pub must_hold : ((a b : ℕ) → 2 ≤ b → a + b ≤ n → SpanSolved ws g (exchanged_all rs) n a b)
      → (s len : ℕ) → s + len ≤ n → True g w n ws s len
  must_hold y = true_all g w n ws distinct (chosen_long rs w c ∙ size) settled
      (λ s len h fit. let z = y s len h fit in
      record {
        marks = z.marks;
        yields =
            marks_under rs w s len z.marks c h (omega arith) z.marked;
        solved = z.solved;
      })

  -- where each token has one column, the sheet is exact
  pub does_hold : Singles rs → ((a b : ℕ) → 2 ≤ b → a + b ≤ n → SpanSolved ws g rs n a b)
      → Exact g w n ws n
  does_hold single y = record {
    one = λ s len A fit. ((must s len fit).one A, (may_hold y s len fit).one A);
    two = λ s len A fit. ((must s len fit).two A, (may_hold y s len fit).two A);
  }
    where
      must : (s len : ℕ) → s + len ≤ n → True g w n ws s len
      must = must_hold (subst (λ (x : Ranges). (a b : ℕ) → 2 ≤ b → a + b ≤ n
          → SpanSolved ws g x n a b) (sym (exchanged_single rs single)) y)
