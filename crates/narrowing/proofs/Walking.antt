-- What the loops over the tokens keep.
use mathlib.Core.Path.{◌≡◌, refl, sym, ap, ◌∙◌, subst, subst₂}
use mathlib.Core.Bool.{Bool}
use mathlib.Core.Logic.{◌⊎◌, inl, inr}
use mathlib.Core.List.{List, [], ◌∷◌}
use Prim.Native.Nat.{ℕ, zero, suc, ◌+◌, ◌-◌, ◌≤◌, ◌<◌}
use native.Mathlib.Omega.{arith}
use native.Mathlib.Decide.{ℕ_discrete}
use lib.ListN.{length, get_or, take, set, length-set}
use lib.Seq.{length-take-le, get_or-take, get_or-set_same, get_or-set_other, ext_get_or}
use Rattle.std.specs.Prelude.{Option, Some, None, IfSome}
use Rattle.sets.specs.Says.{Says}
use Rattle.grammar.specs.declared.Token.{Token}
use Rattle.grammar.specs.Layout.{Every}
use Rattle.grammar.specs.Candidates.{After}
use Rattle.grammar.specs.Sentences.{no_token}
use Rattle.marks.specs.Half.{token_at}
use Rattle.sheets.specs.Following.{after}
use Rattle.sheets.proofs.Accepted.{after_says}
use Rattle.column_ranges.specs.declared.RangeToken.{RangeToken}
use Rattle.column_ranges.specs.declared.RangeSentence.{RangeSentence}
use Rattle.column_ranges.specs.Ranges.{Ranges, columns}
use Rattle.column_ranges.specs.RangeSentences.{range, ranges_of, no_range, EndsOrdered, Spread}
use Rattle.column_ranges.proofs.Counting.{range_read, ended_at}
use Rattle.narrowing.specs.Narrowing.{low_token, high_token, lowest, Single, Singles, MayRise}
use Rattle.narrowing.specs.Narrowing.{SinglesFrom, SinglesBefore, HasSeveral, Picks, fixed, Narrows}
use Rattle.narrowing.proofs.Choices.{lowest_long, lowest_at}

-- ---- rising

-- so the first k tokens may rise
pub record RoseTo (rs : Ranges) (k : ℕ) : Type 0 where
  pub each : (j : ℕ) → j + 1 < k → j + 1 < length rs
      → After (low_token (range rs j)) (high_token (range rs (j + 1)))

pub rose_one : {rs : Ranges} → RoseTo rs 1
rose_one = record { each = λ j h l. absurd (omega arith) }

pub rose_more : {rs : Ranges} (k : ℕ) → 0 < k → RoseTo rs k
    → After (low_token (range rs (k - 1))) (high_token (range rs k)) → RoseTo rs (k + 1)
rose_more {rs} k p r a = record { each = λ j h l. go j h l (ℕ_discrete j (k - 1)) }
  where
    go : (j : ℕ) → j + 1 < k + 1 → j + 1 < length rs → Dec (j ≡ k - 1)
        → After (low_token (range rs j)) (high_token (range rs (j + 1)))
    go j h l (yes e) =
        let d : j + 1 ≡ k = omega arith in
        subst₂ (λ (i m : ℕ). After (low_token (range rs i)) (high_token (range rs m))) (sym e)
        (sym d) a
    go j h l (no n) = r.each j (omega arith) l

pub rose_all : {rs : Ranges} (k : ℕ) → length rs ≤ k → RoseTo rs k → MayRise rs
rose_all k h r = record { each = λ j l. r.each j (omega arith) l }

-- so the token at k comes after the one before
pub rises_at : {rs : Ranges} {k : ℕ} → 0 < k → k < length rs → MayRise rs
    → After (low_token (range rs (k - 1))) (high_token (range rs k))
rises_at {rs} {k} p l m =
    let d : k - 1 + 1 ≡ k = omega arith in
    subst (λ (i : ℕ). After (low_token (range rs (k - 1))) (high_token (range rs i))) d
    (m.each (k - 1) (omega arith))

-- what the test of two tokens says
pub after_read : {b : Bool} {a c : Token} (r : RangeSentence) (k : ℕ) → 0 < k → k < r.count
    → b ≡ after a c → a ≡ low_token (get_or r.tokens (k - 1) no_range)
    → c ≡ high_token (get_or r.tokens k no_range)
    → Says b (After (low_token (range (ranges_of r) (k - 1))) (high_token (range (ranges_of r) k)))
after_read {b} {a} {c} r k l h e p q =
    subst₂ (λ (u v : Token). Says b (After u v))
    (p ∙ ap low_token (sym (range_read r (k - 1) (omega arith))))
    (q ∙ ap high_token (sym (range_read r k h)))
    (subst (λ (z : Bool). Says z (After a c)) (sym e) (after_says a c))

-- ---- a token with several columns

module _ {r : RangeSentence} (p : Spread r) {k m : ℕ} (h : k < r.count)
    (e : m ≡ columns (get_or r.tokens k no_range)) where
  here : range (ranges_of r) k ≡ get_or r.tokens k no_range
  here = range_read r k h

  -- a token with more than one column has several
  pub several_here : 1 < m → HasSeveral (ranges_of r) k
  several_here l = record {
    here = omega (arith, p.whole);
    several = subst (λ (t : RangeToken). t.low.0 < t.high.0) (sym here) (omega (arith, e));
  }

  -- one with no more has one
  pub single_here : (1 < m → ⊥) → Single (range (ranges_of r) k)
  single_here l = subst Single (sym here) (omega (arith, e, (ended_at p k h).ordered))

-- of the first k tokens `best` has several columns, or none has
abbrev pub Seeking : Ranges → Option ℕ → ℕ → Type 0
Seeking rs (Some p) k = HasSeveral rs p
Seeking rs None k = SinglesBefore rs k

pub singles_none : {rs : Ranges} → SinglesBefore rs 0
singles_none = record { each = λ i h l. absurd (omega arith) }

pub singles_more : {rs : Ranges} {k : ℕ} → Single (range rs k) → SinglesBefore rs k
    → SinglesBefore rs (k + 1)
singles_more {rs} {k} s f = record { each = λ i x y. go i x y (ℕ_discrete i k) }
  where
    go : (i : ℕ) → i < k + 1 → i < length rs → Dec (i ≡ k) → Single (range rs i)
    go i x y (yes q) = subst (λ (i : ℕ). Single (range rs i)) (sym q) s
    go i x y (no q) = f.each i (omega arith) y

pub singles_all : {rs : Ranges} {k : ℕ} → length rs ≤ k → SinglesBefore rs k → Singles rs
singles_all h f = record { each = λ j l. f.each j (omega arith) l }

module _ {r : RangeSentence} (p : Spread r) where
  pub seeking_low : (best : Option ℕ) (k : ℕ) → Seeking (ranges_of r) best k
      → IfSome best (λ b. b < r.count)
  seeking_low (Some b) k s = omega (arith, s.here, p.whole)
  seeking_low None k s = tt

  pub seeking_pick : (best : Option ℕ) (k q : ℕ) → HasSeveral (ranges_of r) k
      → (q ≡ k) ⊎ (best ≡ Some q) → Seeking (ranges_of r) best k → HasSeveral (ranges_of r) q
  seeking_pick best k q l (inl d) s = subst (HasSeveral (ranges_of r)) (sym d) l
  seeking_pick best k q l (inr d) s =
      let z : Seeking (ranges_of r) (Some q) k = rw d at s in z

  pub seeking_pass : (best : Option ℕ) (k : ℕ) → Single (range (ranges_of r) k)
      → Seeking (ranges_of r) best k → Seeking (ranges_of r) best (k + 1)
  seeking_pass (Some b) k l s = s
  seeking_pass None k l s = singles_more l s

  pub seeking_all : (best : Option ℕ) (k : ℕ) → r.count ≤ k → Seeking (ranges_of r) best k
      → Picks (ranges_of r) best
  seeking_all (Some b) k h s = s
  seeking_all None k h s = singles_all (omega (arith, p.whole)) s

-- the last such token is looked for from behind
pub singles_behind : {rs : Ranges} {j : ℕ} → 0 < j → Single (range rs (j - 1)) → SinglesFrom rs j
    → SinglesFrom rs (j - 1)
singles_behind {rs} {j} h s b = record { each = λ i x y. go i x y (ℕ_discrete i (j - 1)) }
  where
    go : (i : ℕ) → j - 1 ≤ i → i < length rs → Dec (i ≡ j - 1) → Single (range rs i)
    go i x y (yes q) = subst (λ (i : ℕ). Single (range rs i)) (sym q) s
    go i x y (no q) = b.each i (omega arith) y

-- ---- a token put into a column

take_set : {A : Type 0} (n : ℕ) (l : List A) (i : ℕ) (a : A) → i < n
    → take n (set l i a) ≡ set (take n l) i a
take_set zero l i a h = absurd (omega arith)
take_set (suc n) [] i a h = refl
take_set (suc n) (x ∷ l) zero a h = refl
take_set (suc n) (x ∷ l) (suc i) a h = ap (λ (y : List _). x ∷ y) (take_set n l i a (omega arith))

every_set : (P : RangeToken → Type 0) (rs : Ranges) (t : ℕ) (r : RangeToken) → Every P rs → P r
    → Every P (set rs t r)
every_set P [] t r e p = tt
every_set P (s ∷ rs) zero r e p = (p, e.1)
every_set P (s ∷ rs) (suc t) r e p = (e.0, every_set P rs t r e.1 p)

pub narrows : (r : RangeSentence) (t c : ℕ) {a : RangeToken} → Spread r → t < r.count
    → c < columns (range (ranges_of r) t)
    → a ≡ fixed (get_or r.tokens t no_range) ((get_or r.tokens t no_range).low.0 + c)
    → Narrows r t c (record { tokens = set r.tokens t a; count = r.count })
narrows r t c {a} p h few e = record {
  count = refl;
  spread = record {
    few = p.few;
    whole = ap length same ∙ length-set (ranges_of r) t a ∙ p.whole;
    ended = subst (Every EndsOrdered) (sym same)
        (every_set EndsOrdered (ranges_of r) t a p.ended (subst EndsOrdered (sym here) ended));
  };
  is = same ∙ ap (set (ranges_of r) t) here;
}
  where
    same : take r.count (set r.tokens t a) ≡ set (ranges_of r) t a
    same = take_set r.count r.tokens t a h

    here : a ≡ fixed (range (ranges_of r) t) ((range (ranges_of r) t).low.0 + c)
    here = e ∙ ap (λ (x : RangeToken). fixed x (x.low.0 + c)) (sym (range_read r t h))

    ended : EndsOrdered (fixed (range (ranges_of r) t) ((range (ranges_of r) t).low.0 + c))
    ended =
        let q : EndsOrdered (range (ranges_of r) t) =
        subst EndsOrdered (sym (range_read r t h)) (ended_at p t h) in
        record {
          ordered = omega arith;
          least = omega (arith, q.least);
          most =
              omega (arith, q.most, q.ordered);
        }

-- ---- all tokens in their lowest columns

-- the first i tokens are
pub record LowestPlaced (r : RangeSentence) (tokens : List Token) (i : ℕ) : Type 0 where
  pub long : length tokens ≡ 64
  pub each : (k : ℕ) → k < i → token_at tokens k ≡ low_token (get_or r.tokens k no_range)

pub laid_none : (r : RangeSentence) (tokens : List Token) → length tokens ≡ 64
    → LowestPlaced r tokens 0
laid_none r tokens e = record { long = e; each = λ k h. absurd (omega arith) }

pub laid_more : {r : RangeSentence} {tokens : List Token} {i : ℕ} {t : Token} → i < 64
    → LowestPlaced r tokens i → t ≡ low_token (get_or r.tokens i no_range)
    → LowestPlaced r (set tokens i t) (i + 1)
laid_more {r} {tokens} {i} {t} h l e =
    record { long = length-set tokens i t ∙ l.long; each = λ k m. go k m (ℕ_discrete k i) }
  where
    go : (k : ℕ) → k < i + 1 → Dec (k ≡ i)
        → token_at (set tokens i t) k ≡ low_token (get_or r.tokens k no_range)
    go k m (yes d) = ap (token_at (set tokens i t)) d ∙ get_or-set_same tokens i t no_token
        (omega (arith, l.long)) ∙ e ∙ ap (λ (j : ℕ). low_token (get_or r.tokens j no_range))
        (sym d)
    go k m (no d) = get_or-set_other tokens i k t no_token d ∙ l.each k (omega arith)

pub laid_all : {r : RangeSentence} {tokens : List Token} {i : ℕ} → Spread r → r.count ≤ i
    → LowestPlaced r tokens i → take r.count tokens ≡ lowest (ranges_of r)
laid_all {r} {tokens} {i} p h l = ext_get_or no_token (take r.count tokens) (lowest (ranges_of r))
    (long ∙ sym p.whole ∙ sym (lowest_long (ranges_of r))) (λ k m.
    let j : k < r.count = omega (arith, long) in
    get_or-take r.count tokens k no_token j ∙ l.each k (omega arith)
    ∙ ap low_token (sym (range_read r k j)) ∙ sym
    (lowest_at (ranges_of r) k (omega (arith, p.whole))))
  where
    long : length (take r.count tokens) ≡ r.count
    long = length-take-le r.count tokens (omega (arith, p.few, l.long))
