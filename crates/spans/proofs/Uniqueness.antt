-- A span sheet settles every word: two lists of 64-bit words that are the span sheet of one grammar
-- and one word agree on all words of it. Each pair is some span's, and a word below 2^64 is settled
-- by its digits.
use mathlib.Core.Path.{◌≡◌, refl, sym, ap, ◌∙◌, subst}
use mathlib.Core.Logic.{◌↔◌}
use mathlib.Core.List.{List, ◌++◌}
use Prim.Native.Nat.{ℕ, zero, suc, ◌+◌, ◌-◌, ◌*◌, ◌/◌, ◌%◌, ◌^◌, ◌≤◌, ◌<◌}
use native.Mathlib.Nat.{not-suc-le-zero, pow-suc, pow-succ', div-div-eq-div-mul, div-one, pow-zero}
use native.Mathlib.Decide.{dec_lt}
use native.Mathlib.Omega.{arith}
use lib.ListN.{length, get_or, take, drop, take-append-drop}
use lib.Seq.{ext_get_or, get_or-take, length-take-le}
use Rattle.sets.specs.Sets.{In}
use Rattle.sets.proofs.Sets.{in_dec}
use Rattle.grammar.specs.Layout.{Word}
use Rattle.grammar.specs.Trees.{Rules}
use Rattle.grammar.specs.SpanSheet.{pairs, spans, pair_at, SpanSheet}
use Rattle.spans.specs.Changes.{Past}
use Rattle.spans.proofs.Places.{pairs_spans}
use Rattle.spans.proofs.ChangeLaws.{past_drop}

-- ---- each pair is some span's

pub record SpanAt (n p : ℕ) : Type 0 where
  pub start : ℕ
  pub len : ℕ
  pub fits : start + len ≤ n
  pub here : pair_at n start len ≡ p

row_of : (n p m : ℕ) → m ≤ n → p < spans n m → SpanAt n (suc p)
unfolding spans pair_at
row_of n p zero h l = absurd (not-suc-le-zero l)
row_of n p (suc m) h l = go (λ q. row_of n p m (omega arith) q) (dec_lt p (spans n m))
  where
    go : (p < spans n m → SpanAt n (suc p)) → Dec (p < spans n m) → SpanAt n (suc p)
    go f (yes q) = f q
    go f (no q) =
        record { start = p - spans n m; len = suc m; fits = omega arith; here = omega arith }

pub span_at : (n p : ℕ) → p < pairs n → SpanAt n p
unfolding pair_at
span_at n zero h = record { start = 0; len = 0; fits = omega arith; here = refl }
span_at n (suc p) h = row_of n p n (omega arith) (omega (arith, pairs_spans n))

-- ---- a number below 2^k is settled by its digits

halved : (a i : ℕ) → a / 2 / 2 ^ i ≡ a / 2 ^ suc i
halved a i = div-div-eq-div-mul a 2 (2 ^ i) ∙ ap (λ (x : ℕ). a / x) (sym (pow-succ' 2 i))

digits_same : (k a b : ℕ) → a < 2 ^ k → b < 2 ^ k
    → ((i : ℕ) → i < k → a / 2 ^ i % 2 ≡ b / 2 ^ i % 2) → a ≡ b
digits_same zero a b h l e = omega (arith, pow-zero 2)
digits_same (suc k) a b h l e =
    let r = digits_same k (a / 2) (b / 2) (omega (arith, pow-suc 2 k)) (omega (arith, pow-suc 2 k))
    (λ i m. ap (λ (x : ℕ). x % 2) (halved a i) ∙ e (suc i) (omega arith)
    ∙ ap (λ (x : ℕ). x % 2) (sym (halved b i))) in
    let z : a % 2 ≡ b % 2 = ap (λ (x : ℕ). x % 2) (sym (first a)) ∙ e 0 (omega arith)
    ∙ ap (λ (x : ℕ). x % 2) (first b) in
    omega arith
  where
    first : (x : ℕ) → x / 2 ^ 0 ≡ x
    first x = div-one x

pub sets_same : (a b : ℕ) → a < 2 ^ 64 → b < 2 ^ 64 → ((i : ℕ) → i < 64 → In a i ↔ In b i) → a ≡ b
sets_same a b h l e = digits_same 64 a b h l (λ i m. go i m (in_dec a i))
  where
    go : (i : ℕ) → i < 64 → Dec (In a i) → a / 2 ^ i % 2 ≡ b / 2 ^ i % 2
    go i m (yes x) = x.digit ∙ sym ((e i m).0 x).digit
    go i m (no x) = odd (in_dec b i)
      where
        even : (y : ℕ) → (In y i → ⊥) → y / 2 ^ i % 2 ≡ 0
        even y z = half (dec_lt (y / 2 ^ i % 2) 1)
          where
            half : Dec (y / 2 ^ i % 2 < 1) → y / 2 ^ i % 2 ≡ 0
            half (yes q) = omega arith
            half (no q) = absurd (z (record { digit = omega arith }))

        odd : Dec (In b i) → a / 2 ^ i % 2 ≡ b / 2 ^ i % 2
        odd (yes y) = absurd (x ((e i m).1 y))
        odd (no y) = even a x ∙ sym (even b y)

-- ---- the span sheet

module _ (g : Rules) (w : Word) (ws ws' : List ℕ) (small : (q : ℕ) → get_or ws q 0 < 2 ^ 64)
    (small' : (q : ℕ) → get_or ws' q 0 < 2 ^ 64) (x : SpanSheet g w ws)
    (x' : SpanSheet g w ws') where
  first_same : (p : ℕ) → p < pairs (length w) → get_or ws (2 * p) 0 ≡ get_or ws' (2 * p) 0
  first_same p h =
      let s = span_at (length w) p h in
      subst (λ (q : ℕ). get_or ws (2 * q) 0 ≡ get_or ws' (2 * q) 0) s.here
      (sets_same _ _ (small _) (small' _)
      (λ A l. (
        λ m. (x'.one s.start s.len A s.fits l).1
            ((x.one s.start s.len A s.fits l).0 m),
        λ m. (x.one s.start s.len A
            s.fits l).1 ((x'.one s.start s.len A s.fits l).0 m),
      )))

  second_same : (p : ℕ) → p < pairs (length w) → get_or ws (2 * p + 1) 0 ≡ get_or ws' (2 * p + 1) 0
  second_same p h =
      let s = span_at (length w) p h in
      subst (λ (q : ℕ). get_or ws (2 * q + 1) 0 ≡ get_or ws' (2 * q + 1) 0) s.here
      (sets_same _ _ (small _) (small' _)
      (λ A l. (
        λ m. (x'.two s.start s.len A s.fits l).1
            ((x.two s.start s.len A s.fits l).0 m),
        λ m. (x.two s.start s.len A
            s.fits l).1 ((x'.two s.start s.len A s.fits l).0 m),
      )))

  word_same : (q : ℕ) → q < 2 * pairs (length w) → get_or ws q 0 ≡ get_or ws' q 0
  word_same q h = go (dec_lt (q % 2) 1)
    where
      go : Dec (q % 2 < 1) → get_or ws q 0 ≡ get_or ws' q 0
      go (yes e) = subst (λ (r : ℕ). get_or ws r 0 ≡ get_or ws' r 0)
          (let z : 2 * (q / 2) ≡ q = omega arith in z) (first_same (q / 2) (omega arith))
      go (no e) = subst (λ (r : ℕ). get_or ws r 0 ≡ get_or ws' r 0)
          (let z : 2 * (q / 2) + 1 ≡ q = omega arith in z) (second_same (q / 2) (omega arith))

  -- they agree on all words of the sheet
  pub sheet_same : take (2 * pairs (length w)) ws ≡ take (2 * pairs (length w)) ws'
  sheet_same =
      let n : ℕ = 2 * pairs (length w) in
      let e = length-take-le n ws x.enough in
      ext_get_or 0 (take n ws) (take n ws') (e ∙ sym (length-take-le n ws' x'.enough))
      (λ i h. get_or-take n ws i 0 (omega arith) ∙ word_same i (omega arith)
      ∙ sym (get_or-take n ws' i 0 (omega arith)))

  -- so what a call leaves is settled, where it keeps the words past the sheet
  pub words_same : (old : List ℕ) → Past (2 * pairs (length w)) old ws
      → Past (2 * pairs (length w)) old ws' → ws ≡ ws'
  words_same old a b =
      let n : ℕ = 2 * pairs (length w) in
      let e : drop n ws ≡ drop n ws' = past_drop a ∙ sym (past_drop b) in
      sym (take-append-drop n ws) ∙ (λ i. sheet_same i ++ e i) ∙ take-append-drop n ws'
