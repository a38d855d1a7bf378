-- The numbers of all spans, row by row; once all are done they are the least heights.
use mathlib.Core.Path.{◌≡◌, refl, sym, ap, ap₂, ◌∙◌, subst₂}
use mathlib.Core.Logic.{inl, inr, ⊎_elim}
use mathlib.Core.List.{List}
use Prim.Native.Nat.{ℕ, zero, suc, ◌+◌, ◌*◌, ◌≤◌, ◌<◌, max}
use native.Mathlib.Omega.{arith}
use native.Mathlib.Decide.{dec_lt}
use lib.ListN.{length, get_or, replicate, length-replicate}
use Rattle.grammar.specs.declared.Clause.{Clause}
use Rattle.grammar.specs.Layout.{Word}
use Rattle.grammar.specs.Trees.{Rules}
use Rattle.grammar.specs.SpanSheet.{pair_at}
use Rattle.spans.proofs.Places.{pair_at_same, pair_at_empty}
use Rattle.tables.specs.Tables.{rule}
use Rattle.heights.specs.Least.{HeightSheet}
use Rattle.heights.specs.Tall.{no_height, table, Tall, by_word}
use Rattle.heights.specs.Falls.{Shut}
use Rattle.heights.specs.Filled.{Done, SpanEarlier, Filled}
use Rattle.heights.proofs.TallLaws.{tall_by, RightHeights, least_height}
use Rattle.heights.proofs.Bounds.{small_none, small_end}
use Rattle.heights.proofs.FallLaws.{Lefts, falls_rest}
use Rattle.heights.proofs.RowLaws.{Row, row_falls}

-- the next row may begin
pub row_of : {l : List ℕ} {g : Rules} {w : Word} {start len : ℕ} → Filled l g w start len
    → start + len ≤ length w → Row l g w start len
row_of {l} {g} {w} {start} {len} f b =
    record {
      room = record { few = f.few; fits = b; long = f.long };
      grounded = f.grounded;
      less = λ a c B q r h. omega (arith, (f.done a c q (inl r)).small B h);
      small = small_none no_height (64 * len) (table l (length w) start len)
          (λ B. f.fresh start len B b (λ e. ⊎_elim (λ x. omega arith) (λ x. omega (arith, x.1))
          e));
    }

done_kept : {l m : List ℕ} {g : Rules} {w : Word} (a b : ℕ) → a + b ≤ length w
    → ((s' len' B : ℕ) → a ≤ s' → s' + len' ≤ a + b
    → table m (length w) s' len' B ≡ table l (length w) s' len' B) → Done l g w a b
    → Done m g w a b
done_kept {l} {m} {g} {w} a b h e d =
    record {
      closed = λ i k u x t.
          let z = d.closed i k u x (tall_by (table m (length w)) (table l (length w))
          (by_word w a b) a b (rule g i).clause k u (λ s' len' B p q. sym (e s' len' B p q))
          t) in
          omega (arith, z, e a b (rule g i).left (omega arith) (omega arith));
      small = λ B x. let z = e a b B (omega arith) (omega arith) in
          omega (arith, d.small B (omega arith));
    }

-- a row of a span of one or more tokens is shut
pub filled_on : {l m : List ℕ} {g : Rules} {w : Word} {start len : ℕ} → Lefts g → 0 < len
    → start + len ≤ length w → Filled l g w start len
    → Shut g (by_word w start len) (length w) start len l m → Filled m g w (start + 1) len
filled_on {l} {m} {g} {w} {start} {len} lefts pos fit f x =
    record {
      few = f.few;
      long = row.room.long;
      grounded = row.grounded;
      done = done;
      fresh =
          fresh;
    }
  where
    row : Row m g w start len
    row = row_falls lefts x.falls (row_of f fit)

    rest : (a b B : ℕ) → a + b ≤ length w
        → (pair_at (length w) a b ≡ pair_at (length w) start len → ⊥)
        → table m (length w) a b B ≡ table l (length w) a b B
    rest = falls_rest lefts (row_of f fit).room x.falls

    -- a part of an earlier span has another row
    clear : (a b : ℕ) → a + b ≤ length w → SpanEarlier a b start len → (a' b' : ℕ) → a ≤ a'
        → a' + b' ≤ a + b → pair_at (length w) a' b' ≡ pair_at (length w) start len → ⊥
    clear a b h d a' b' k n e =
        let q = pair_at_same (length w) a' b' start len (omega arith) fit e in
        ⊎_elim (λ z. omega (arith, q.0))
        (λ z. ⊎_elim (λ y. omega (arith, q.0)) (λ y. omega (arith, q.0, y.0, y.1)) d) q.1

    old : (a b : ℕ) → a + b ≤ length w → SpanEarlier a b start len → Done m g w a b
    old a b h d = done_kept a b h (λ s' len' B p q. rest s' len' B (omega arith)
        (clear a b h d s' len' p q)) (f.done a b h d)

    mine : Done m g w start len
    mine = record { closed = x.closed; small = λ B h. omega (arith, small_end row.small B h) }

    done : (a b : ℕ) → a + b ≤ length w → SpanEarlier a b (start + 1) len → Done m g w a b
    done a b h (inl z) = old a b h (inl z)
    done a b h (inr z) = go (dec_lt a start)
      where
        go : Dec (a < start) → Done m g w a b
        go (yes y) = old a b h (inr (z.0, y))
        go (no y) =
            subst₂ (Done m g w) (let e : start ≡ a = omega (arith, z.1) in e) (sym z.0) mine

    fresh : (a b B : ℕ) → a + b ≤ length w → (SpanEarlier a b (start + 1) len → ⊥)
        → no_height ≤ table m (length w) a b B
    fresh a b B h n =
        let e = rest a b B h (λ q. other q) in
        let z = f.fresh a b B h (λ d. n (⊎_elim inl (λ y. inr (y.0, omega (arith, y.1))) d)) in
        omega arith
      where
        other : pair_at (length w) a b ≡ pair_at (length w) start len → ⊥
        other q =
            let z = pair_at_same (length w) a b start len h fit q in
            ⊎_elim (λ y. omega (arith, z.0)) (λ y. n (inr (z.0, omega arith))) z.1

-- all rows of a length are done
pub filled_row : {l : List ℕ} {g : Rules} {w : Word} {start len : ℕ} → length w < start + len
    → Filled l g w start len → Filled l g w 0 (len + 1)
filled_row {l} {g} {w} {start} {len} past f =
    record {
      few = f.few;
      long = f.long;
      grounded = f.grounded;
      done = λ a b h d. f.done a b h (go a b h (dec_lt b len) d);
      fresh = λ a b B h n. f.fresh a b B h
          (λ d. n (⊎_elim (λ y. inl (omega arith)) (λ y. inl (omega (arith, y.0))) d));
    }
  where
    go : (a b : ℕ) → a + b ≤ length w → Dec (b < len) → SpanEarlier a b 0 (len + 1)
        → SpanEarlier a b start len
    go a b h (yes x) d = inl x
    go a b h (no x) (inl y) = inr (omega arith, omega arith)
    go a b h (no x) (inr y) = absurd (omega (arith, y.1))

-- the row of the empty word is done: one row for all starts
tall_none : (l : List ℕ) (n : ℕ) (ts : Word) (a : ℕ) (c : Clause) (k h : ℕ)
    → Tall (table l n) (by_word ts a 0) a 0 c k h → Tall (table l n) (by_word ts 0 0) 0 0 c k h
tall_none l n ts a Clause.Empty k h t = t
tall_none l n ts a (Clause.Atom x y) k h t = t
tall_none l n ts a (Clause.Unary B m) k h t = (
  t.0,
  t.1,
  t.2 ∙ ap suc (ap (λ (z : ℕ). get_or l (2081 * B + z) 65535)
      (pair_at_empty n a ∙ sym (pair_at_empty n 0))),
)
tall_none l n ts a (Clause.Binary B C m) k h t = go k t.0 t
  where
    go : (k : ℕ) → k ≤ 0 → Tall (table l n) (by_word ts a 0) a 0 (Clause.Binary B C m) k h
        → Tall (table l n) (by_word ts 0 0) 0 0 (Clause.Binary B C m) k h
    go zero x t = (
      x,
      t.1,
      t.2 ∙ ap₂ (λ (p q : ℕ). suc
          (max (get_or l (2081 * B + p) 65535) (get_or l (2081 * C + q) 65535)))
          (pair_at_empty n a ∙ sym (pair_at_empty n 0))
          (pair_at_empty n (a + 0) ∙ sym (pair_at_empty n (0 + 0))),
    )
    go (suc k) x t = absurd (omega arith)

pub filled_first : {l m : List ℕ} {g : Rules} {w : Word} → Lefts g → Filled l g w 0 0
    → Shut g (by_word w 0 0) (length w) 0 0 l m → Filled m g w 0 1
filled_first {l} {m} {g} {w} lefts f x =
    record {
      few = f.few;
      long = row.room.long;
      grounded = row.grounded;
      done = done;
      fresh =
          fresh;
    }
  where
    row : Row m g w 0 0
    row = row_falls lefts x.falls (row_of f (omega arith))

    rest : (a b B : ℕ) → a + b ≤ length w → (pair_at (length w) a b ≡ pair_at (length w) 0 0 → ⊥)
        → table m (length w) a b B ≡ table l (length w) a b B
    rest = falls_rest lefts (row_of f (omega arith)).room x.falls

    same : (a B : ℕ) → table m (length w) a 0 B ≡ table m (length w) 0 0 B
    same a B = ap (λ (z : ℕ). get_or m (2081 * B + z) 65535)
        (pair_at_empty (length w) a ∙ sym (pair_at_empty (length w) 0))

    at : (a b : ℕ) → b ≡ 0 → Done m g w a b
    at a zero e =
        record {
          closed = λ i k h y t. let z = x.closed i k h y
              (tall_none m (length w) w a (rule g i).clause k h t) in
              omega (arith, same a (rule g i).left);
          small = λ B h. let z = same a B in omega (arith, small_end row.small B (omega arith));
        }
    at a (suc b) e = absurd (omega arith)

    done : (a b : ℕ) → a + b ≤ length w → SpanEarlier a b 0 1 → Done m g w a b
    done a b h (inl y) = at a b (omega arith)
    done a b h (inr y) = absurd (omega (arith, y.1))

    fresh : (a b B : ℕ) → a + b ≤ length w → (SpanEarlier a b 0 1 → ⊥)
        → no_height ≤ table m (length w) a b B
    fresh a b B h n =
        let e = rest a b B h (λ q. let z = pair_at_same (length w) a b 0 0 h (omega arith) q in
        n (inl (omega (arith, z.0)))) in
        let z = f.fresh a b B h (λ d. ⊎_elim (λ y. omega arith) (λ y. omega (arith, y.1)) d) in
        omega arith

-- a table of nothing
pub filled_none : {l : List ℕ} {g : Rules} {w : Word} → length w ≤ 64 → length l ≡ 133184
    → ((q : ℕ) → 65535 ≤ get_or l q 65535) → Filled l g w 0 0
filled_none {l} {g} {w} few long z =
    record {
      few = few;
      long = long;
      grounded = record {
        each = λ a b A h t. absurd
            (omega (arith, z (2081 * A + pair_at (length w) a b)));
      };
      done = λ a b h d. absurd (⊎_elim (λ y. omega arith) (λ y. omega (arith, y.1)) d);
      fresh = λ a b B h n. z (2081 * B + pair_at (length w) a b);
    }

-- THE END: the numbers are the least heights
pub filled_right : {l : List ℕ} {g : Rules} {w : Word} → Filled l g w 0 (length w + 1)
    → HeightSheet g w l
filled_right {l} {g} {w} f =
    record { long = f.long; least = λ s len A h d. least_height right s len A h d }
  where
    within : (a b : ℕ) → a + b ≤ length w → Done l g w a b
    within a b h = f.done a b h (inl (omega arith))

    right : RightHeights (table l (length w)) g w 65533
    right =
        record {
          sound = λ a b A h n. f.grounded.each a b A h (omega arith);
          closed = λ a b i k h q x t. (within a b q).closed i k h x t;
          gap = λ a b A h n. omega (arith, (within a b h).small A (omega arith), f.few);
        }

all_none : (n q : ℕ) → ◌≡◌ {A = ℕ} (get_or (replicate n 65535) q 65535) 65535
all_none zero q = refl
all_none (suc n) zero = refl
all_none (suc n) (suc q) = all_none n q

pub filled_start : (g : Rules) (w : Word) → length w ≤ 64 → Filled (replicate 133184 65535) g w 0 0
filled_start g w few =
    filled_none few (length-replicate {A = ℕ} 133184 65535) (λ q. omega (arith, all_none 133184 q))
