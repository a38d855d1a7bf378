-- What may hold and what must: a choice within the ends leaves to a clause no more than the marks
-- of the ranges do, and no less than those of the ranges with their ends exchanged.
use mathlib.Core.Path.{◌≡◌, refl, sym, ap, ◌∙◌, subst}
use mathlib.Core.List.{List, [], ◌∷◌}
use Prim.Native.Nat.{ℕ, zero, suc, ◌+◌, ◌-◌, ◌≤◌, ◌<◌}
use native.Mathlib.Omega.{arith}
use native.Mathlib.Decide.{ℕ_discrete}
use lib.ListN.{length, get_or, take, set, length-set}
use lib.Seq.{get_or-take, get_or-set_same, get_or-set_other, length-take-le, ext_get_or}
use Rattle.marks.proofs.Words.{keeps_self}
use Rattle.grammar.specs.declared.Token.{Token}
use Rattle.grammar.specs.declared.UnaryMark.{UnaryMark}
use Rattle.grammar.specs.declared.BinaryMark.{BinaryMark}
use Rattle.grammar.specs.Layout.{Word, Keeps, Pairs, line, col}
use Rattle.marks.specs.declared.SpanMarks.{SpanMarks}
use Rattle.marks.specs.Half.{token_at, MayKeep, MayPair}
use Rattle.marks.specs.Marked.{BinaryBy}
use Rattle.tables.specs.Tables.{by_tokens, by_marks}
use Rattle.tables.proofs.Views.{Yields}
use Rattle.column_ranges.specs.declared.RangeToken.{RangeToken}
use Rattle.column_ranges.specs.Ranges.{Ranges, WithinEnds, Chosen}
use Rattle.column_ranges.specs.declared.RangeSentence.{RangeSentence}
use Rattle.column_ranges.specs.RangeSentences.{range, ranges_of, no_range}
use Rattle.column_ranges.proofs.Counting.{range_read}
use Rattle.narrowing.specs.Narrowing.{Singles}
use Rattle.narrowing.proofs.Choices.{chosen_long, chosen_at}
use Rattle.range_marks.specs.RangeMarks.{whole, seen_from, RangeMarked, exchanged}
use Rattle.range_marks.specs.RangeMarks.{exchanged_all}
use Rattle.range_marks.proofs.Stretching.{seen_long, seen_here, seen_there, seen_line}

-- ---- columns further apart

-- the first token's column is no greater, the other's no less, and the lines are the same
pub record Apart (a t a' t' : Token) : Type 0 where
  pub first : line a' ≡ line a
  pub other : line t' ≡ line t
  pub low : col a' ≤ col a
  pub high : col t ≤ col t'

-- what a mark asks of two tokens holds further apart
keeps_apart : (m : UnaryMark) {a t a' t' : Token} → Apart a t a' t' → Keeps m a t → Keeps m a' t'
keeps_apart UnaryMark.None x k = tt
keeps_apart UnaryMark.Offside x k = λ l. let q = k (omega (arith, x.first, x.other)) in
    omega (arith, x.low, x.high)
keeps_apart UnaryMark.Offalign x k = λ l. let q = k (omega (arith, x.first, x.other)) in
    omega (arith, x.low, x.high)
keeps_apart UnaryMark.Single x k = x.other ∙ k ∙ sym x.first

indent_apart : (z z' : Token) {a t a' t' : Token} → Apart a t a' t' → line z' ≡ line z
    → Pairs BinaryMark.Indent a z t → Pairs BinaryMark.Indent a' z' t'
indent_apart z z' x e p = (omega (arith, x.low, x.high, p.0), omega (arith, x.other, e, p.1))

-- a word whose tokens are further apart, seen from s
pub record Wider (w w' : Word) (s : ℕ) : Type 0 where
  pub long : length w' ≡ length w
  pub lines : (i : ℕ) → i < length w → line (token_at w' i) ≡ line (token_at w i)
  pub apart : (i : ℕ) → i < length w → (i ≡ s → ⊥)
      → Apart (token_at w s) (token_at w i) (token_at w' s) (token_at w' i)

module _ {w w' : Word} {s : ℕ} (x : Wider w w' s) where
  wider_keep : (m : UnaryMark) (len : ℕ) → s + len ≤ length w → MayKeep m (whole w) s len
      → MayKeep m (whole w') s len
  wider_keep m len fit k = record { keeps = λ i l h. go i l h (ℕ_discrete i 0) }
    where
      go : (i : ℕ) → i < len → s + i < length w' → Dec (i ≡ 0)
          → Keeps m (token_at w' s) (token_at w' (s + i))
      go i l h (yes e) = subst (λ (j : ℕ). Keeps m (token_at w' s) (token_at w' j))
          (let z : s ≡ s + i = omega arith in z) (keeps_self m (token_at w' s))
      go i l h (no d) = keeps_apart m (x.apart (s + i) (omega arith) (λ e. d (omega arith)))
          (k.keeps i l (omega arith))

  wider_indent : (l r r' : ℕ) → 0 < l → 0 < r → s + l < length w
      → MayPair BinaryMark.Indent (whole w) s l r → MayPair BinaryMark.Indent (whole w') s l r'
  wider_indent l r r' a b h p = record {
    pairs = λ c d e. indent_apart (token_at w (s + l - 1)) (token_at w' (s + l - 1))
        (x.apart (s + l) h (λ z. omega arith)) (x.lines (s + l - 1) (omega arith))
        (p.pairs a b h);
  }

-- ---- a choice within the ends

module _ (rs : Ranges) (w : Word) (c : Chosen rs w) (s : ℕ) (h : s < length rs) where
  long : length w ≡ length rs
  long = chosen_long rs w c

  at : (i : ℕ) → i < length rs → WithinEnds (range rs i) (token_at w i)
  at = chosen_at rs w c

  -- as seen from s the tokens stand further apart
  pub seen_wider : Wider w (seen_from rs s) s
  seen_wider = record {
    long = seen_long rs s ∙ sym long;
    lines = λ i l. seen_line rs s i (omega (arith, long)) ∙ sym (at i (omega (arith, long))).line;
    apart = λ i l d.
        let j : i < length rs = omega (arith, long) in
        let a = at s h in
        let b = at i j in
        record {
          first = seen_line rs s s h ∙ sym a.line;
          other = seen_line rs s i j ∙ sym b.line;
          low = omega (arith, ap col (seen_here rs s h), a.low);
          high = omega (arith, ap col (seen_there rs s i j d), b.high);
        };
  }

pub exchanged_long : (rs : Ranges) → length (exchanged_all rs) ≡ length rs
exchanged_long [] = refl
exchanged_long (r ∷ rs) = ap suc (exchanged_long rs)

pub exchanged_at : (rs : Ranges) (i : ℕ) → i < length rs
    → range (exchanged_all rs) i ≡ exchanged (range rs i)
exchanged_at [] i h = absurd (omega arith)
exchanged_at (r ∷ rs) zero h = refl
exchanged_at (r ∷ rs) (suc i) h = exchanged_at rs i (omega arith)

module _ (rs : Ranges) (w : Word) (c : Chosen rs w) (s : ℕ) (h : s < length rs) where
  far : (i : ℕ) → i < length rs → i < length (exchanged_all rs)
  far i l = omega (arith, exchanged_long rs)

  -- with the ends exchanged they stand nearer
  pub wider_seen : Wider (seen_from (exchanged_all rs) s) w s
  wider_seen = record {
    long = chosen_long rs w c ∙ sym (exchanged_long rs) ∙ sym (seen_long (exchanged_all rs) s);
    lines = λ i l. let j : i < length rs =
        omega (arith, seen_long (exchanged_all rs) s, exchanged_long rs) in lined i j;
    apart = λ i l d.
        let j : i < length rs = omega (arith, seen_long (exchanged_all rs) s, exchanged_long rs) in
        let a = chosen_at rs w c s h in
        let b = chosen_at rs w c i j in
        record {
          first = lined s h;
          other = lined i j;
          low = omega (
            arith,
            ap col (seen_here (exchanged_all rs) s (far s h)),
            ap
                (λ (r : RangeToken). r.low.0) (exchanged_at rs s h),
            a.high,
          );
          high = omega (
            arith,
            ap col (seen_there (exchanged_all rs) s i (far i j) d),
            ap
                (λ (r : RangeToken). r.high.0) (exchanged_at rs i j),
            b.low,
          );
        };
  }
    where
      lined : (i : ℕ) → i < length rs
          → line (token_at w i) ≡ line (token_at (seen_from (exchanged_all rs) s) i)
      lined i j = (chosen_at rs w c i j).line ∙ ap (λ (r : RangeToken). r.line.0)
          (sym (exchanged_at rs i j)) ∙ sym (seen_line (exchanged_all rs) s i (far i j))

-- ---- what the marks say

-- what holds of a choice within the ends the marks of the ranges allow
pub marks_over : (rs : Ranges) (w : Word) (s len : ℕ) (k : SpanMarks) → Chosen rs w → 2 ≤ len
    → s + len ≤ length rs → RangeMarked rs s len k
    → Yields (by_tokens (whole w) s len) (by_marks k len) len
marks_over rs w s len k c two fit m = record {
  atom = λ e. absurd (omega arith);
  unary = λ u p. (m.unary u).1 (wider_keep x u len (omega (arith, long)) p);
  binary = binary;
}
  where
    long : length w ≡ length rs
    long = chosen_long rs w c

    x : Wider w (seen_from rs s) s
    x = seen_wider rs w c s (omega arith)

    binary : (u : BinaryMark) (l : ℕ) → l ≤ len → MayPair u (whole w) s l (len - l)
        → BinaryBy k len u l
    binary BinaryMark.None l f p = tt
    binary BinaryMark.Align l f p = λ a b.
        let q = p.pairs a (omega arith) (omega (arith, long)) in
        let y = chosen_at rs w c s (omega arith) in
        let z = chosen_at rs w c (s + l) (omega arith) in
        (m.align l a b).1 (record {
          low = omega (arith, q, y.low, z.high);
          high = omega
              (arith, q, y.high, z.low);
        })
    binary BinaryMark.Indent l f p = λ a b. (m.indent l a b).1
        (wider_indent x l (len - l) 1 a (omega arith) (omega (arith, long)) p)

-- what the marks of the ranges with their ends exchanged allow holds of it
pub marks_under : (rs : Ranges) (w : Word) (s len : ℕ) (k : SpanMarks) → Chosen rs w → 2 ≤ len
    → s + len ≤ length rs → RangeMarked (exchanged_all rs) s len k
    → Yields (by_marks k len) (by_tokens (whole w) s len) len
marks_under rs w s len k c two fit m = record {
  atom = λ e. absurd (omega arith);
  unary = λ u p. wider_keep x u len (omega (arith, near)) ((m.unary u).0 p);
  binary = binary;
}
  where
    near : length (seen_from (exchanged_all rs) s) ≡ length rs
    near = seen_long (exchanged_all rs) s ∙ exchanged_long rs

    x : Wider (seen_from (exchanged_all rs) s) w s
    x = wider_seen rs w c s (omega arith)

    binary : (u : BinaryMark) (l : ℕ) → l ≤ len → BinaryBy k len u l
        → MayPair u (whole w) s l (len - l)
    binary BinaryMark.None l f p = record { pairs = λ a b e. tt }
    binary BinaryMark.Align l f p = record {
      pairs = λ a b e.
          let q = (m.align l a (omega arith)).0 (p a (omega arith)) in
          let y = chosen_at rs w c s (omega arith) in
          let z = chosen_at rs w c (s + l) (omega arith) in
          let u = ap (λ (r : RangeToken). r.low.0) (exchanged_at rs s (omega arith)) in
          let u' = ap (λ (r : RangeToken). r.high.0) (exchanged_at rs s (omega arith)) in
          let v = ap (λ (r : RangeToken). r.low.0) (exchanged_at rs (s + l) (omega arith)) in
          let v' = ap (λ (r : RangeToken). r.high.0) (exchanged_at rs (s + l) (omega arith)) in
          omega (arith, q.low, q.high, u, u', v, v', y.low, y.high, z.low, z.high);
    }
    binary BinaryMark.Indent l f p = record {
      pairs = λ a b e. (wider_indent x l 1 (len - l) a (omega arith) (omega (arith, near))
          ((m.indent l a (omega arith)).0 (p a (omega arith)))).pairs a b e;
    }

-- where each token has one column, the exchange changes nothing
pub exchanged_single : (rs : Ranges) → Singles rs → exchanged_all rs ≡ rs
exchanged_single [] s = refl
exchanged_single (r ∷ rs) s =
    let e : r.low.0 ≡ r.high.0 = s.each 0 (omega arith) in
    let d : exchanged r ≡ r = λ i. record {
      terminal = r.terminal;
      line = r.line;
      low = record { 0 = sym e i };
      high =
          record { 0 = e i };
    } in
    let f : exchanged_all rs ≡ rs =
    exchanged_single rs (record { each = λ k h. s.each (suc k) (omega arith) }) in
    λ i. d i ∷ f i

-- ---- exchanging them one after the other

-- the first i tokens are exchanged
pub record Exchanging (r : RangeSentence) (tokens : List RangeToken) (i : ℕ) : Type 0 where
  pub long : length tokens ≡ length r.tokens
  pub each : (k : ℕ) → k < i → get_or tokens k no_range ≡ exchanged (get_or r.tokens k no_range)

pub exchanging_none : (r : RangeSentence) → Exchanging r r.tokens 0
exchanging_none r = record { long = refl; each = λ k h. absurd (omega arith) }

pub exchanging_more : {r : RangeSentence} {tokens : List RangeToken} {i : ℕ} {t : RangeToken}
    → i < length r.tokens → Exchanging r tokens i → t ≡ exchanged (get_or r.tokens i no_range)
    → Exchanging r (set tokens i t) (i + 1)
exchanging_more {r} {tokens} {i} {t} h l e =
    record { long = length-set tokens i t ∙ l.long; each = λ k m. go k m (ℕ_discrete k i) }
  where
    go : (k : ℕ) → k < i + 1 → Dec (k ≡ i)
        → get_or (set tokens i t) k no_range ≡ exchanged (get_or r.tokens k no_range)
    go k m (yes d) = ap (λ (j : ℕ). get_or (set tokens i t) j no_range) d
        ∙ get_or-set_same tokens i t no_range (omega (arith, l.long)) ∙ e
        ∙ ap (λ (j : ℕ). exchanged (get_or r.tokens j no_range)) (sym d)
    go k m (no d) = get_or-set_other tokens i k t no_range d ∙ l.each k (omega arith)

pub exchanging_all : {r : RangeSentence} {tokens : List RangeToken} {i : ℕ}
    → r.count ≤ length r.tokens → length (ranges_of r) ≡ r.count → r.count ≤ i
    → Exchanging r tokens i → take r.count tokens ≡ exchanged_all (ranges_of r)
exchanging_all {r} {tokens} {i} f p h l = ext_get_or no_range (take r.count tokens)
    (exchanged_all (ranges_of r)) (long ∙ sym p ∙ sym (exchanged_long (ranges_of r))) (λ k m.
    let j : k < r.count = omega (arith, long) in
    get_or-take r.count tokens k no_range j ∙ l.each k (omega arith)
    ∙ ap exchanged (sym (range_read r k j)) ∙ sym
    (exchanged_at (ranges_of r) k (omega (arith, p))))
  where
    long : length (take r.count tokens) ≡ r.count
    long = length-take-le r.count tokens (omega (arith, l.long))
