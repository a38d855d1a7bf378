-- The orders of numbers and the offsets of tokens that rise.
use mathlib.Core.Path.{◌≡◌, refl, sym, ap, ◌∙◌, subst}
use mathlib.Core.Logic.{inl, inr}
use Prim.Native.Nat.{ℕ, ◌≤◌, ◌<◌}
use native.Mathlib.Omega.{arith}
use native.Mathlib.Decide.{dec_lt}
use lib.ListN.{length}
use borrow.Author.Tests.{lt-ltb, le-ltb, eq-eqb, ne_eqb}
use Rattle.grammar.specs.declared.Token.{Token}
use Rattle.grammar.specs.declared.UnaryMark.{UnaryMark}
use Rattle.grammar.specs.Layout.{Word, Keeps, line, col, width}
use Rattle.grammar.specs.Candidates.{After, Rising, Wide}
use Rattle.marks.specs.Half.{token_at}
use Rattle.marks.proofs.Words.{every_at}
use Rattle.places.proofs.PlaceLaws.{later_after}
use Rattle.pairs.specs.Relations.{Order, less, equal, more, order, Offset, beside, below}
use Rattle.pairs.specs.Relations.{Chained, Tri}
use Rattle.pairs.specs.Settings.{AllowsOffset}
use Rattle.pairs.proofs.Nodes.{offset, offset_at}

-- 1. orders

abbrev pub Is : Order → ℕ → ℕ → Type 0
Is less m n = m < n
Is equal m n = m ≡ n
Is more m n = n < m

pub is_order : (o : Order) (m n : ℕ) → Is o m n → order m n ≡ o
unfolding order
is_order less m n h = rw (lt-ltb m n h) refl
is_order equal m n h = rw (le-ltb m n (omega arith), le-ltb n m (omega arith)) refl
is_order more m n h = rw (le-ltb m n (omega arith), lt-ltb n m h) refl

pub order_is : (m n : ℕ) → Is (order m n) m n
order_is m n = by (dec_lt m n) (dec_lt n m)
  where
    by : Dec (m < n) → Dec (n < m) → Is (order m n) m n
    by (yes h) d = rw (is_order less m n h) h
    by (no h) (yes k) = rw (is_order more m n k) k
    by (no h) (no k) = let e : m ≡ n = omega arith in rw (is_order equal m n e) e

pub is_of : (m n : ℕ) (o : Order) → order m n ≡ o → Is o m n
is_of m n o e = subst (λ (p : Order). Is p m n) e (order_is m n)

pub is_unique : (m n : ℕ) (o p : Order) → Is o m n → Is p m n → o ≡ p
is_unique m n o p x y = sym (is_order o m n x) ∙ is_order p m n y

pub chained : (x y z : ℕ) (o p q : Order) → Is o y x → Is p z y → Is q z x → Chained o p q
chained x y z equal less q f h k = is_unique z x q less k (omega arith)
chained x y z equal equal q f h k = is_unique z x q equal k (omega arith)
chained x y z equal more q f h k = is_unique z x q more k (omega arith)
chained x y z less less q f h k = is_unique z x q less k (omega arith)
chained x y z less equal q f h k = is_unique z x q less k (omega arith)
chained x y z less more q f h k = tt
chained x y z more less q f h k = tt
chained x y z more equal q f h k = is_unique z x q more k (omega arith)
chained x y z more more q f h k = is_unique z x q more k (omega arith)

-- 2. offsets

abbrev pub LiesBy : Token → Token → Offset → Type 0
LiesBy s t beside = (line s ≡ line t) × (col s < col t)
LiesBy s t (below o) = (line s < line t) × Is o (col t) (col s)

pub lies_offset : (s t : Token) (l : Offset) → LiesBy s t l → offset s t ≡ l
unfolding offset
lies_offset s t beside h = rw (eq-eqb (line s) (line t) h.0) refl
lies_offset s t (below o) h =
    rw (ne_eqb (line s) (line t) (λ e. omega (arith, h.0)), is_order o (col t) (col s) h.1) refl

pub offset_lies : (s t : Token) → 1 ≤ width s → After s t → LiesBy s t (offset s t)
offset_lies s t v (inl h) = let k : LiesBy s t (below (order (col t) (col s))) =
    (h, order_is (col t) (col s)) in rw (lies_offset s t (below (order (col t) (col s))) k) k
offset_lies s t v (inr h) = let k : LiesBy s t beside = (h.0, omega (arith, h.1)) in
    rw (lies_offset s t beside k) k

lies_unique : (s t : Token) (l k : Offset) → LiesBy s t l → LiesBy s t k → l ≡ k
lies_unique s t l k x y = sym (lies_offset s t l x) ∙ lies_offset s t k y

pub tri : (s t u : Token) (l k z : Offset) → LiesBy s t l → LiesBy t u k → LiesBy s u z → Tri l k z
tri s t u beside beside z x y h = lies_unique s u z beside h
    (omega (arith, x.0, x.1, y.0, y.1), omega (arith, x.0, x.1, y.0, y.1))
tri s t u beside (below p) beside x y h = omega (arith, x.0, y.0, h.0)
tri s t u beside (below p) (below q) x y h =
    chained (col s) (col t) (col u) more p q x.1 y.1 h.1
tri s t u (below o) beside beside x y h = omega (arith, x.0, y.0, h.0)
tri s t u (below o) beside (below q) x y h =
    chained (col s) (col t) (col u) o more q x.1 y.1 h.1
tri s t u (below o) (below p) beside x y h = omega (arith, x.0, y.0, h.0)
tri s t u (below o) (below p) (below q) x y h =
    chained (col s) (col t) (col u) o p q x.1 y.1 h.1

pub keeps_allows : (m : UnaryMark) (s t : Token) (l : Offset) → LiesBy s t l → Keeps m s t
    → AllowsOffset m l
keeps_allows m s t beside h k = tt
keeps_allows UnaryMark.None s t (below o) h k = tt
keeps_allows UnaryMark.Offside s t (below o) h k =
    is_unique (col t) (col s) o more h.1 (k h.0)
keeps_allows UnaryMark.Offalign s t (below o) h k = λ e. let z : col t < col s =
    subst (λ (p : Order). Is p (col t) (col s)) e h.1 in omega (arith, k h.0)
keeps_allows UnaryMark.Single s t (below o) h k = omega (arith, h.0)

-- 3. the tokens of a rising sentence

module _ (w : Word) (rise : Rising w) (wide : Wide w) where
  pub lies_at : (i j : ℕ) → i < j → j < length w
      → LiesBy (token_at w i) (token_at w j) (offset_at w i j)
  unfolding offset_at
  lies_at i j h k =
      rw (is_order less i j h)
      (offset_lies (token_at w i) (token_at w j)
      (every_at (λ t. 1 ≤ width t) w wide i (omega arith))
      (later_after w rise i j h k))

  pub lines_rise : (i j : ℕ) → i ≤ j → j < length w → line (token_at w i) ≤ line (token_at w j)
  lines_rise i j h k = by (dec_lt i j)
    where
      after : After (token_at w i) (token_at w j) → line (token_at w i) ≤ line (token_at w j)
      after (inl a) = omega arith
      after (inr a) = omega (arith, a.0)

      by : Dec (i < j) → line (token_at w i) ≤ line (token_at w j)
      by (yes l) = after (later_after w rise i j l k)
      by (no l) = let e : i ≡ j = omega arith in rw e (omega arith)

pub align_offset : (s t : Token) (l : Offset) → LiesBy s t l → col s ≡ col t → l ≡ below equal
align_offset s t beside h e = absurd (omega (arith, h.1))
align_offset s t (below o) h e = ap below (is_unique (col t) (col s) o equal h.1 (sym e))

pub indent_offset : (s t : Token) (l : Offset) → LiesBy s t l → line s < line t → col s < col t
    → l ≡ below more
indent_offset s t beside h k e = absurd (omega (arith, h.0))
indent_offset s t (below o) h k e = ap below (is_unique (col t) (col s) o more h.1 e)

pub offset_same : (w : Word) (i j : ℕ) → i ≡ j → offset_at w i j ≡ beside
unfolding offset_at
offset_same w i j e = rw (is_order equal i j e) refl

pub offset_turn : (w : Word) (i j : ℕ) → offset_at w i j ≡ offset_at w j i
unfolding offset_at
offset_turn w i j = by (dec_lt i j) (dec_lt j i)
  where
    by : Dec (i < j) → Dec (j < i) → offset_at w i j ≡ offset_at w j i
    by (yes h) d = rw (is_order less i j h, is_order more j i h) refl
    by (no h) (yes k) = rw (is_order more i j k, is_order less j i k) refl
    by (no h) (no k) = let e : i ≡ j = omega arith in
        offset_same w i j e ∙ sym (offset_same w j i (sym e))
