-- The numbers of one span while they are lowered: each has a tree, and none is large.
use mathlib.Core.Path.{◌≡◌, sym, ap, ap₂, ◌∙◌, subst}
use mathlib.Core.Logic.{⊎_elim}
use mathlib.Core.List.{List}
use Prim.Native.Nat.{ℕ, ◌+◌, ◌-◌, ◌*◌, ◌≤◌, ◌<◌}
use native.Mathlib.Omega.{arith}
use native.Mathlib.Decide.{ℕ_discrete}
use lib.ListN.{length, get_or, set, length-set}
use Rattle.grammar.specs.declared.Grammar.{Grammar}
use Rattle.grammar.specs.Content.{rules_of, Formed}
use Rattle.grammar.specs.Layout.{Word}
use Rattle.grammar.specs.Trees.{Tree, Rules, Witness}
use Rattle.grammar.specs.Choices.{height}
use Rattle.grammar.specs.SpanSheet.{part, pair_at}
use Rattle.spans.proofs.Places.{pair_at_same, pair_at_shorter}
use Rattle.marks.specs.declared.SpanMarks.{SpanMarks}
use Rattle.marks.specs.Half.{Half}
use Rattle.marks.specs.Marked.{Marked}
use Rattle.marks.proofs.HalfLaws.{may_be, may_keep, may_pair, is_one, does_keep, does_pair}
use Rattle.marks.proofs.HalfLaws.{completes_self}
use Rattle.tables.specs.Tables.{Leave, by_marks, rule}
use Rattle.tables.proofs.RulePlaces.{small_at}
use Rattle.tables.proofs.Views.{Yields, marks_tokens, tokens_marks}
use Rattle.heights.specs.Tall.{no_height, table, Tall, by_word, Room}
use Rattle.heights.specs.Falls.{Falls, stays, put, HeightsTried, Inner, AllEnds, Stopped}
use Rattle.heights.specs.Falls.{Shut}
use Rattle.heights.specs.Filled.{Grounded}
use Rattle.heights.proofs.TallLaws.{tall_view, tall_low, grown}
use Rattle.heights.proofs.Bounds.{Put, Small, small_put, row_placed}
use Rattle.heights.proofs.FallLaws.{put_row, put_rest, Lefts, shut_of}

-- the left sides of rules are nonterminals
pub lefts_formed : {g : Grammar} → Formed g → Lefts (rules_of g)
lefts_formed f i h = (small_at f i h).left

-- ---- by the marks, by the words

-- all of the word is known
abbrev whole : Word → Half
whole w = record { word = w; known = length w }

module _ (w : Word) (s len : ℕ) (k : SpanMarks) (fit : s + len ≤ length w)
    (m : Marked (whole w) s len k) where
  pub marks_word : Yields (by_marks k len) (by_word w s len) len
  marks_word =
      let y = marks_tokens (whole w) s len k m in
      record {
        atom = λ e a b x. let d = is_one (whole w) (omega arith) s a b (omega arith)
            (y.atom e a b x) in (d.0, ap (part w s) e ∙ d.1, d.2);
        unary = λ u x. does_keep (whole w) (omega arith) u s len fit (y.unary u x);
        binary = λ u l b x. let r : s + l + (len - l) ≤ length w = omega arith in
            does_pair (whole w) (omega arith) u s l (len - l) r (y.binary u l b x);
      }

  pub word_marks : Yields (by_word w s len) (by_marks k len) len
  word_marks =
      let y = tokens_marks (whole w) s len k m in
      record {
        atom = λ e a b x. y.atom e a b
            (may_be (whole w) w (completes_self (whole w)) s len a b x.0 x.2 fit
            (omega (arith, fit, e)) x.1);
        unary = λ u x. y.unary u (may_keep (whole w) w (completes_self (whole w)) u s len fit x);
        binary = λ u l b x. let r : s + l + (len - l) ≤ length w = omega arith in
            y.binary u l b (may_pair (whole w) w (completes_self (whole w)) u s l (len - l) r x);
      }

falls_view : {g : Rules} {v v' : Leave} {n s len : ℕ} {l m : List ℕ} → Yields v v' len
    → Falls g v n s len l m → Falls g v' n s len l m
falls_view y stays = stays
falls_view {g} {v} {v'} {n} {s} {len} {l} y (put i k h b t c d f) =
    put i k h b (tall_view (table l n) v v' s len (rule g i).clause k h y t) c d (falls_view y f)

shut_whole : {g : Rules} {s len : ℕ} {l m o : List ℕ} {r : _} (w : Word) (k : SpanMarks) → Lefts g
    → Room l (length w) s len → Marked (whole w) s len k
    → HeightsTried g (by_marks k len) (length w) s len (Inner len (length g)) l m r
    → Stopped g (by_marks k len) (length w) s len (AllEnds len (length g)) m o
    → Shut g (by_word w s len) (length w) s len l o
shut_whole {g} {s} {len} {l} {m} {o} w k lefts room mk x y =
    let z = shut_of lefts room x y in
    record {
      falls = falls_view (marks_word w s len k room.fits mk) z.falls;
      closed = λ i q h b t. z.closed i q h b
          (tall_view (table o (length w)) (by_word w s len) (by_marks k len) s len (rule g i).clause
          q h (word_marks w s len k room.fits mk) t);
    }

-- the span is settled
pub shut_by : {g : Rules} {s len : ℕ} {l m o : List ℕ} {r : _} (w : Word) (k : SpanMarks) (n c : ℕ)
    → length w ≡ n → c ≡ length g → Lefts g → Room l n s len
    → Marked (record { word = w; known = n }) s len k
    → HeightsTried g (by_marks k len) n s len (Inner len c) l m r
    → Stopped g (by_marks k len) n s len (AllEnds len c) m o
    → Shut g (by_word w s len) (length w) s len l o
shut_by {g} {s} {len} {l} {m} {o} {r} w k n c e f lefts =
    subst (λ (y : ℕ). Room l n s len → Marked (record { word = w; known = n }) s len k
    → HeightsTried g (by_marks k len) n s len (Inner len y) l m r
    → Stopped g (by_marks k len) n s len (AllEnds len y) m o
    → Shut g (by_word w s len) (length w) s len l o) (sym f)
    (subst (λ (x : ℕ). Room l x s len
    → Marked (record { word = w; known = x }) s len k
    → HeightsTried g (by_marks k len) x s len (Inner len (length g)) l m r
    → Stopped g (by_marks k len) x s len (AllEnds len (length g)) m o
    → Shut g (by_word w s len) (length w) s len l o) e
    (shut_whole w k lefts))

-- ---- trees

pub record Row (l : List ℕ) (g : Rules) (w : Word) (start len : ℕ) : Type 0 where
  pub room : Room l (length w) start len
  pub grounded : Grounded l g w
  pub less : (a b B : ℕ) → a + b ≤ length w → b < len → table l (length w) a b B < no_height
      → table l (length w) a b B ≤ 64 * len
  pub small : Small no_height (64 * len) (table l (length w) start len)

module _ {l : List ℕ} {g : Rules} {w : Word} {start len : ℕ} (lefts : Lefts g)
    (x : Row l g w start len) where
  few : length w ≤ 64
  few = x.room.few

  fits : start + len ≤ length w
  fits = x.room.fits

  -- one number is lowered
  row_put : (i k h : ℕ) → i < length g
      → Tall (table l (length w)) (by_word w start len) start len (rule g i).clause k h
      → h < no_height
      → h < table l (length w) start len (rule g i).left
      → Row (set l (2081 * (rule g i).left + pair_at (length w) start len) h) g w start len
  row_put i k h b t n d =
      record {
        room = record { few = few; fits = fits; long = length-set l _ h ∙ x.room.long };
        grounded = record { each = grounded };
        less = λ a b B q r. less a b B q r;
        small = small_put no_height (lefts i b) put' x.small
            (tall_low (table l (length w)) (by_word w start len) no_height start len
            (64 * len + row_placed no_height (table l (length w) start len)) x.small.each shorter
            (rule g i).clause k h t n);
      }
    where
      m : List ℕ
      m = set l (2081 * (rule g i).left + pair_at (length w) start len) h

      put' : Put (table l (length w) start len) (table m (length w) start len) (rule g i).left h
      put' = put_row l (length w) start len (rule g i).left h few fits (lefts i b) x.room.long
          d

      shorter : (a b' B : ℕ) → a + b' ≤ start + len → b' < len
          → table l (length w) a b' B < no_height
          → table l (length w) a b' B ≤ 64 * len + row_placed no_height
          (table l (length w) start len)
      shorter a b' B u q r = omega (arith, x.less a b' B (omega (arith, fits)) q r)

      grounded : (a b' B : ℕ) → a + b' ≤ length w → table m (length w) a b' B < no_height
          → (t : Tree) × Witness g B (part w a b') t × (height t ≤ table m (length w) a b' B)
      grounded a b' B q r = go (ℕ_discrete (pair_at (length w) a b') (pair_at (length w) start len))
          (ℕ_discrete B (rule g i).left)
        where
          old : table m (length w) a b' B ≡ table l (length w) a b' B
              → (t : Tree) × Witness g B (part w a b') t × (height t ≤ table m (length w) a b' B)
          old e = let y = x.grounded.each a b' B q (omega arith) in
              (y.0, y.1, omega (arith, e, y.2))

          same_part : pair_at (length w) a b' ≡ pair_at (length w) start len
              → part w start len ≡ part w a b'
          same_part e =
              let z = pair_at_same (length w) a b' start len q fits e in
              ⊎_elim
              (λ n. ap (part w start) (sym z.0 ∙ n) ∙ sym (ap (part w a) n))
              (λ n. ap₂ (part w) (sym n) (sym z.0)) z.1

          go : Dec (pair_at (length w) a b' ≡ pair_at (length w) start len)
              → Dec (B ≡ (rule g i).left)
              → (t : Tree) × Witness g B (part w a b') t × (height t ≤ table m (length w) a b' B)
          go (no e) d = old (put_rest l (length w) start len (rule g i).left h few fits a b' B q e)
          go (yes e) (no d) =
              let u : table m (length w) a b' B ≡ table m (length w) start len B =
              ap (λ (z : ℕ). get_or m (2081 * B + z) 65535) e in
              let v : table l (length w) a b' B ≡ table l (length w) start len B =
              ap (λ (z : ℕ). get_or l (2081 * B + z) 65535) e in
              old (u ∙ put'.rest B d ∙ sym v)
          go (yes e) (yes d) =
              let y = grown (table l (length w)) g w 65534
              (λ a b A q r. x.grounded.each a b A q (omega arith)) start len i k h fits b t
              (omega arith) in
              let u : table m (length w) a b' B ≡ h =
              ap₂ (λ (z C : ℕ). get_or m (2081 * C + z) 65535) e d ∙ put'.here in (
                y.0,
                subst (λ (v : _). Witness g B v y.0) (same_part e) (rw d y.1),
                omega
                    (arith, u, y.2),
              )

      less : (a b' B : ℕ) → a + b' ≤ length w → b' < len → table m (length w) a b' B < no_height
          → table m (length w) a b' B ≤ 64 * len
      less a b' B q r =
          let e = put_rest l (length w) start len (rule g i).left h few fits a b' B q
          (λ z. omega (arith, z, pair_at_shorter (length w) a b' start len q r)) in
          λ y. omega (arith, e, x.less a b' B q r (omega arith))

pub row_falls : {g : Rules} {w : Word} {start len : ℕ} {l m : List ℕ} → Lefts g
    → Falls g (by_word w start len) (length w) start len l m → Row l g w start len
    → Row m g w start len
row_falls lefts stays x = x
row_falls lefts (put i k h b t c d f) x = row_falls lefts f (row_put lefts x i k h b t c d)
