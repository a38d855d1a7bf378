-- The marks of spans of ranges, carried along a token at a time.
use mathlib.Core.Path.{◌≡◌, refl, sym, ap, ◌∙◌, subst, subst₂, subst₃}
use mathlib.Core.Bool.{Bool, true, false}
use mathlib.Core.Logic.{⊎_elim, ◌↔◌}
use mathlib.Core.List.{[], ◌∷◌}
use Prim.Native.Nat.{ℕ, zero, suc, ◌+◌, ◌-◌, ◌<◌}
use native.Mathlib.Omega.{arith}
use native.Mathlib.Decide.{ℕ_discrete, dec_lt}
use lib.ListN.{length, set, length-set}
use lib.Seq.{get_or-set_same, get_or-set_other}
use Rattle.sets.specs.Sets.{In}
use Rattle.sets.specs.Says.{Says}
use Rattle.sets.specs.Insertion.{insert}
use Rattle.sets.proofs.Says.{true_not_false, holds, fails, says_iff}
use Rattle.sets.proofs.Sets.{in_zero, insert_same, insert_keeps, insert_only}
use Rattle.grammar.specs.declared.Token.{Token}
use Rattle.grammar.specs.declared.UnaryMark.{UnaryMark}
use Rattle.grammar.specs.declared.BinaryMark.TheVariants as BinaryMark
use Rattle.grammar.specs.Layout.{Pairs, line, col}
use Rattle.grammar.specs.Sentences.{no_token}
use Rattle.marks.specs.declared.SpanMarks.{SpanMarks}
use Rattle.marks.specs.Half.{token_at}
use Rattle.marks.specs.Marked.{UnaryBy, Included, Joined, IncludedIf, Growing, Carried}
use Rattle.marks.proofs.Joining.{NextJoined, carried_first, carried_more, carried_all}
use Rattle.column_ranges.specs.declared.RangeToken.{RangeToken}
use Rattle.column_ranges.specs.Ranges.{Ranges}
use Rattle.column_ranges.specs.RangeSentences.{range}
use Rattle.narrowing.specs.Narrowing.{low_token, high_token}
use Rattle.range_marks.specs.RangeMarks.{whole, Overlap, highest, seen_from, first_of, aligned}
use Rattle.range_marks.specs.RangeMarks.{Stretched, RangeMarked}

-- ---- the tokens as they are seen from s

highest_long : (rs : Ranges) → length (highest rs) ≡ length rs
highest_long [] = refl
highest_long (r ∷ rs) = ap suc (highest_long rs)

highest_at : (rs : Ranges) (i : ℕ) → i < length rs
    → token_at (highest rs) i ≡ high_token (range rs i)
highest_at [] i h = absurd (omega arith)
highest_at (r ∷ rs) zero h = refl
highest_at (r ∷ rs) (suc i) h = highest_at rs i (omega arith)

module _ (rs : Ranges) (s : ℕ) where
  pub seen_long : length (seen_from rs s) ≡ length rs
  seen_long = length-set (highest rs) s (low_token (range rs s)) ∙ highest_long rs

  pub seen_here : s < length rs → token_at (seen_from rs s) s ≡ low_token (range rs s)
  seen_here h =
      get_or-set_same (highest rs) s (low_token (range rs s)) no_token
      (omega (arith, highest_long rs))

  pub seen_there : (i : ℕ) → i < length rs → (i ≡ s → ⊥)
      → token_at (seen_from rs s) i ≡ high_token (range rs i)
  seen_there i h d =
      get_or-set_other (highest rs) s i (low_token (range rs s)) no_token d ∙ highest_at rs i h

-- the line is the same in either column
pub seen_line : (rs : Ranges) (s i : ℕ) → i < length rs
    → line (token_at (seen_from rs s) i) ≡ (range rs i).line.0
seen_line rs s i h = go (ℕ_discrete i s)
  where
    go : Dec (i ≡ s) → line (token_at (seen_from rs s) i) ≡ (range rs i).line.0
    go (yes e) = ap (λ (j : ℕ). line (token_at (seen_from rs s) j)) e
        ∙ ap line (seen_here rs s (omega arith)) ∙ ap (λ (j : ℕ). (range rs j).line.0) (sym e)
    go (no d) = ap line (seen_there rs s i h d)

-- ---- sets of left lengths

-- set has the left lengths from 1 to below `to` at which P holds
pub record Listed (P : ℕ → Type 0) (to set : ℕ) : Type 0 where
  pub each : (l : ℕ) → 0 < l → l < to → In set l ↔ P l
  pub only : (l : ℕ) → In set l → (0 < l) × (l < to)

listed_none : (P : ℕ → Type 0) → Listed P 1 0
listed_none P = record { each = λ l a b. absurd (omega arith); only = λ l i. absurd (in_zero l i) }

listed_more : (P : ℕ → Type 0) (left set r : ℕ) (flag : Bool) → 0 < left → Says flag (P left)
    → Included set left flag r → Listed P left set → Listed P (left + 1) r
listed_more P left set r true pos a b p = record {
  each = λ l x y. go l x (dec_lt l left) y;
  only = λ l i. ⊎_elim (λ j. let q = p.only l j in (q.0, omega arith))
      (λ e. (omega arith, omega arith)) (insert_only set left l (subst (λ (z : ℕ). In z l) now i));
}
  where
    now : r ≡ insert set left
    now = b.is refl

    go : (l : ℕ) → 0 < l → Dec (l < left) → l < left + 1 → In r l ↔ P l
    go l x (yes z) y = (
      λ i. ⊎_elim (λ j. (p.each l x z).0 j) (λ e. absurd (omega arith))
          (insert_only set left l (subst (λ (z : ℕ). In z l) now i)),
      λ q. subst (λ (z : ℕ). In z l) (sym now) (insert_keeps set left ((p.each l x z).1 q)),
    )
    go l x (no z) y =
        let e : left ≡ l = omega arith in
        subst (λ (z : ℕ). In r z ↔ P z) e
        (λ i. a.is refl, λ q. subst (λ (z : ℕ). In z left) (sym now) (insert_same set left))
listed_more P left set r false pos a b p = record {
  each = λ l x y. go l x (dec_lt l left) y;
  only = λ l i. let q = p.only l (subst (λ (z : ℕ). In z l) now i) in (q.0, omega arith);
}
  where
    now : r ≡ set
    now = b.isnt refl

    go : (l : ℕ) → 0 < l → Dec (l < left) → l < left + 1 → In r l ↔ P l
    go l x (yes z) y = (
      λ i. (p.each l x z).0 (subst (λ (z : ℕ). In z l) now i),
      λ q. subst
          (λ (z : ℕ). In z l) (sym now) ((p.each l x z).1 q),
    )
    go l x (no z) y =
        let e : left ≡ l = omega arith in
        subst (λ (z : ℕ). In r z ↔ P z) e (
          λ i. absurd (let j = p.only left (subst (λ (z : ℕ). In z left) now i) in omega arith),
          λ q. absurd (a.isnt refl q),
        )

-- ---- carried along

-- the marks k of len tokens from s on: but for align they are those of the tokens as seen from s
pub record RangeCarried (rs : Ranges) (s len : ℕ) (k : SpanMarks) : Type 0 where
  pub shadow : ℕ
  pub carried : Carried (whole (seen_from rs s)) s len (aligned k shadow)
  pub align : Listed (λ l. Overlap (range rs s) (range rs (s + l))) len k.align

pub stretch_first : (rs : Ranges) (s : ℕ) → s < length rs
    → RangeCarried rs s 1 (first_of (range rs s))
stretch_first rs s h = record {
  shadow = 0;
  carried = carried_first (whole (seen_from rs s)) s (range rs s).terminal (range rs s).low
      (ap (λ (t : Token). t.terminal) (sym (seen_here rs s h)))
      (ap (λ (t : Token). t.column) (sym (seen_here rs s h)));
  align = listed_none (λ l. Overlap (range rs s) (range rs (s + l)));
}

-- one token more
module _ (rs : Ranges) (s l : ℕ) (k r : SpanMarks) (pos : 0 < l) (h : s + l < length rs)
    (c : RangeCarried rs s l k) (j : Stretched k (range rs s) (range rs (s + l - 1))
    (range rs (s + l)) l r) where
  abbrev a : Token
  a = low_token (range rs s)

  abbrev t : Token
  t = high_token (range rs (s + l))

  -- some set of the left lengths at which the columns are equal
  shade : (x : ℕ) × IncludedIf c.shadow l
      (Pairs BinaryMark.Align a (high_token (range rs (s + l - 1))) t) x
  shade = go (ℕ_discrete (col a) (col t))
    where
      go : Dec (col a ≡ col t) → (x : ℕ) × IncludedIf c.shadow l
          (Pairs BinaryMark.Align a (high_token (range rs (s + l - 1))) t) x
      go (yes e) = (
        insert c.shadow l,
        record {
          flag = true;
          says = holds e;
          included = record { is = λ z. refl; isnt = λ z. absurd (true_not_false z) };
        },
      )
      go (no d) = (
        c.shadow,
        record {
          flag = false;
          says = fails d;
          included = record
              { is = λ z. absurd (true_not_false (sym z)); isnt = λ z. refl };
        },
      )

  -- the token before is asked for its line alone
  joined_as : (z : Token) → line z ≡ line (high_token (range rs (s + l - 1)))
      → Joined (aligned k c.shadow) l a z t (aligned j.next shade.0)
  joined_as z e = record {
    first = j.joined.first;
    least = j.joined.least;
    single = j.joined.single;
    align = shade.1;
    indent =
        let g = j.joined.indent in
        record {
          flag = g.flag;
          says = says_iff (λ p. (p.0, omega (arith, p.1, e)))
              (λ p. (p.0, omega (arith, p.1, e))) g.says;
          included = g.included;
        };
    terminal = j.joined.terminal;
  }

  next : NextJoined (whole (seen_from rs s)) s l (aligned k c.shadow) (aligned r shade.0)
  next = record {
    counts = λ x.
        subst (Joined (aligned k c.shadow) l (token_at (seen_from rs s) s)
        (token_at (seen_from rs s) (s + l - 1)) (token_at (seen_from rs s) (s + l)))
        (ap (λ (y : SpanMarks). aligned y shade.0) (sym j.same))
        (subst₂ (λ (x y : Token). Joined (aligned k c.shadow) l x
        (token_at (seen_from rs s) (s + l - 1)) y (aligned j.next shade.0))
        (sym (seen_here rs s (omega arith)))
        (sym (seen_there rs s (s + l) h (λ e. omega arith)))
        (joined_as (token_at (seen_from rs s) (s + l - 1))
        (seen_line rs s (s + l - 1) (omega arith))));
    open_one = λ x. absurd (omega (arith, seen_long rs s));
  }

  pub stretch_more : RangeCarried rs s (l + 1) r
  stretch_more = record {
    shadow = shade.0;
    carried = carried_more (whole (seen_from rs s)) s l (aligned k c.shadow)
        (aligned r shade.0) pos c.carried next;
    align = listed_more (λ l. Overlap (range rs s) (range rs (s + l))) l k.align r.align
        j.flag pos j.says j.align c.align;
  }

-- ---- the whole span

as_aligned : (k : SpanMarks) (x : ℕ) (m : UnaryMark)
    → (UnaryBy k m → UnaryBy (aligned k x) m) × (UnaryBy (aligned k x) m → UnaryBy k m)
as_aligned k x UnaryMark.None = (λ z. z, λ z. z)
as_aligned k x UnaryMark.Offside = (λ z. z, λ z. z)
as_aligned k x UnaryMark.Offalign = (λ z. z, λ z. z)
as_aligned k x UnaryMark.Single = (λ z. z, λ z. z)

pub stretch_marked : (rs : Ranges) (s len : ℕ) (k : SpanMarks) → RangeCarried rs s len k
    → RangeMarked rs s len k
stretch_marked rs s len k c = record {
  unary = λ m. let q = (carried_all (whole (seen_from rs s)) s len (aligned k c.shadow)
      c.carried).unary m in let e = as_aligned k c.shadow m in
      (λ z. q.0 (e.0 z), λ z. e.1 (q.1 z));
  align = λ l a b. c.align.each l a b;
  indent = λ l a b. c.carried.indent.each l a b;
}

-- what the function makes
pub stretching : {k m : SpanMarks} {a z t : RangeToken} {x y v : Token} {l al : ℕ} {flag : Bool}
    → Growing k l 0 1 x y v m → x ≡ low_token a → y ≡ high_token z → v ≡ high_token t
    → Says flag (Overlap a t) → Included k.align l flag al
    → Stretched k a z t l (aligned m al)
stretching {k} {m} {a} {z} {t} {x} {y} {v} {l} {al} {flag} j e f g says i = record {
  next = m;
  joined = subst₃ (λ (p q r : Token). Joined k l p q r m) e f g (j.advanced.counts (omega arith));
  same = refl;
  flag = flag;
  says = says;
  align = i;
}
