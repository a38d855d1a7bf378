-- Choices of columns and rising words, token by token; what a narrowed range keeps of them.
use mathlib.Core.Path.{◌≡◌, refl, sym, ap, ◌∙◌, subst₂}
use mathlib.Core.Logic.{inl, inr}
use mathlib.Core.List.{[], ◌∷◌}
use Prim.Native.Nat.{ℕ, zero, suc, ◌+◌, ◌-◌, ◌≤◌, ◌<◌}
use native.Mathlib.Omega.{arith}
use native.Mathlib.Numerals.{add-one}
use lib.ListN.{length, set, length-set}
use lib.Seq.{get_or-set_same, get_or-set_other}
use Rattle.grammar.specs.declared.Token.{Token}
use Rattle.grammar.specs.Layout.{Word, col, Every}
use Rattle.grammar.specs.Trees.{Rules}
use Rattle.grammar.specs.Candidates.{After, RisingFrom, Rising}
use Rattle.marks.specs.Half.{token_at}
use Rattle.grammar.specs.declared.Verdict.{Verdict}
use Rattle.column_ranges.specs.declared.RangeToken.{RangeToken}
use Rattle.column_ranges.specs.Ranges.{Ranges, WithinEnds, Chosen, SomeChoiceGives}
use Rattle.column_ranges.specs.RangeSentences.{range, no_range, EndsOrdered}
use Rattle.narrowing.specs.Narrowing.{standing, low_token, high_token, lowest, Singles, MayRise}
use Rattle.narrowing.specs.Narrowing.{fixed, fixed_at}

-- ---- token by token

pub chosen_long : (rs : Ranges) (x : Word) → Chosen rs x → length x ≡ length rs
chosen_long [] [] c = refl
chosen_long [] (t ∷ x) c = absurd c
chosen_long (r ∷ rs) [] c = absurd c
chosen_long (r ∷ rs) (t ∷ x) c = ap suc (chosen_long rs x c.1)

pub chosen_at : (rs : Ranges) (x : Word) → Chosen rs x → (i : ℕ) → i < length rs
    → WithinEnds (range rs i) (token_at x i)
chosen_at [] x c i h = absurd (omega arith)
chosen_at (r ∷ rs) [] c i h = absurd c
chosen_at (r ∷ rs) (t ∷ x) c zero h = c.0
chosen_at (r ∷ rs) (t ∷ x) c (suc i) h = chosen_at rs x c.1 i (omega arith)

from_at : (a : Token) (x : Word) → RisingFrom a x → (i : ℕ) → i < length x
    → After (token_at (a ∷ x) i) (token_at x i)
from_at a [] r i h = absurd (omega arith)
from_at a (b ∷ x) r zero h = r.0
from_at a (b ∷ x) r (suc i) h = from_at b x r.1 i (omega arith)

pub rising_at : (x : Word) → Rising x → (i : ℕ) → i + 1 < length x
    → After (token_at x i) (token_at x (i + 1))
rising_at [] r i h = absurd (omega arith)
rising_at (a ∷ x) r i h = rw (add-one i) (from_at a x r i (omega arith))

at_from : (a : Token) (x : Word)
    → ((i : ℕ) → i < length x → After (token_at (a ∷ x) i) (token_at x i)) → RisingFrom a x
at_from a [] f = tt
at_from a (b ∷ x) f = (f 0 (omega arith), at_from b x (λ i h. f (suc i) (omega arith)))

pub at_rising : (x : Word) → ((i : ℕ) → i + 1 < length x
    → After (token_at x i) (token_at x (i + 1)))
    → Rising x
at_rising [] f = tt
at_rising (a ∷ x) f = at_from a x (λ i h. rw (add-one i) at (f i (omega arith)))

-- a token within the ends stands in its column
pub within_standing : (r : RangeToken) (t : Token) (x : ℕ) → WithinEnds r t → col t ≡ x
    → t ≡ standing r x
within_standing r t x w e = λ i. record {
  terminal = w.terminal i;
  line = record { 0 = w.line i };
  column = record { 0 = e i };
  width = record { 0 = w.width i };
}

-- ---- the choice of all lowest columns

pub lowest_long : (rs : Ranges) → length (lowest rs) ≡ length rs
lowest_long [] = refl
lowest_long (r ∷ rs) = ap suc (lowest_long rs)

pub lowest_at : (rs : Ranges) (i : ℕ) → i < length rs
    → token_at (lowest rs) i ≡ low_token (range rs i)
lowest_at [] i h = absurd (omega arith)
lowest_at (r ∷ rs) zero h = refl
lowest_at (r ∷ rs) (suc i) h = lowest_at rs i (omega arith)

pub lowest_chosen : (rs : Ranges) → Every EndsOrdered rs → Chosen rs (lowest rs)
lowest_chosen [] e = tt
lowest_chosen (r ∷ rs) e = (
  record
      { terminal = refl; line = refl; low = omega arith; high = e.0.ordered; width = refl },
  lowest_chosen rs e.1,
)

-- where each token has one column, it is the only choice
pub only_lowest : (rs : Ranges) (x : Word) → Singles rs → Chosen rs x → x ≡ lowest rs
only_lowest [] [] s c = refl
only_lowest [] (t ∷ x) s c = absurd c
only_lowest (r ∷ rs) [] s c = absurd c
only_lowest (r ∷ rs) (t ∷ x) s c =
    let a : t ≡ low_token r = within_standing r t r.low.0 c.0
    (omega (arith, s.each 0 (omega arith), c.0.low, c.0.high)) in
    let b : x ≡ lowest rs =
    only_lowest rs x (record { each = λ k h. s.each (suc k) (omega arith) }) c.1 in
    λ i. a i ∷ b i

-- ---- rising

-- further apart, a token comes after the other still
after_ends : {r s : RangeToken} {a b : Token} → WithinEnds r a → WithinEnds s b → After a b
    → After (low_token r) (high_token s)
after_ends x y (inl l) = inl (omega (arith, x.line, y.line))
after_ends x y (inr p) =
    inr (sym x.line ∙ p.0 ∙ y.line, omega (arith, x.low, y.high, x.width, p.1))

pub chosen_rise : (rs : Ranges) (x : Word) → Chosen rs x → Rising x → MayRise rs
chosen_rise rs x c r = record {
  each = λ k h. after_ends (chosen_at rs x c k (omega arith)) (chosen_at rs x c (k + 1) h)
      (rising_at x r k (omega (arith, chosen_long rs x c)));
}

pub single_rising : (rs : Ranges) → Singles rs → MayRise rs → Rising (lowest rs)
single_rising rs s m = at_rising (lowest rs) (λ i h.
    let j : i + 1 < length rs = omega (arith, lowest_long rs) in
    let e : high_token (range rs (i + 1)) ≡ low_token (range rs (i + 1)) =
    ap (standing (range rs (i + 1))) (sym (s.each (i + 1) j)) in
    subst₂ After (sym (lowest_at rs i (omega arith))) (e ∙ sym (lowest_at rs (i + 1) j))
    (m.each i j))

-- ---- a token in one of its columns

pub fixed_long : (rs : Ranges) (t x : ℕ) → length (fixed_at rs t x) ≡ length rs
fixed_long rs t x = length-set rs t (fixed (range rs t) x)

pub fixed_here : (rs : Ranges) (t x : ℕ) → t < length rs
    → range (fixed_at rs t x) t ≡ fixed (range rs t) x
fixed_here rs t x h = get_or-set_same rs t (fixed (range rs t) x) no_range h

pub fixed_rest : (rs : Ranges) (t x k : ℕ) → (k ≡ t → ⊥) → range (fixed_at rs t x) k ≡ range rs k
fixed_rest rs t x k d = get_or-set_other rs t k (fixed (range rs t) x) no_range d

pub set_chosen : (rs : Ranges) (t : ℕ) (r : RangeToken) (w : Word)
    → ((a : Token) → WithinEnds r a → WithinEnds (range rs t) a) → Chosen (set rs t r) w
    → Chosen rs w
set_chosen [] t r w f c = c
set_chosen (s ∷ rs) zero r [] f c = absurd c
set_chosen (s ∷ rs) zero r (a ∷ w) f c = (f a c.0, c.1)
set_chosen (s ∷ rs) (suc t) r [] f c = absurd c
set_chosen (s ∷ rs) (suc t) r (a ∷ w) f c = (c.0, set_chosen rs t r w f c.1)

pub chosen_set : (rs : Ranges) (t : ℕ) (r : RangeToken) (w : Word) → t < length rs
    → WithinEnds r (token_at w t) → Chosen rs w → Chosen (set rs t r) w
chosen_set [] t r w h f c = absurd (omega arith)
chosen_set (s ∷ rs) zero r [] h f c = absurd c
chosen_set (s ∷ rs) zero r (a ∷ w) h f c = (f, c.1)
chosen_set (s ∷ rs) (suc t) r [] h f c = absurd c
chosen_set (s ∷ rs) (suc t) r (a ∷ w) h f c = (c.0, chosen_set rs t r w (omega arith) f c.1)

fixed_within : (r : RangeToken) (x : ℕ) → r.low.0 ≤ x → x ≤ r.high.0 → (a : Token)
    → WithinEnds (fixed r x) a → WithinEnds r a
fixed_within r x l h a w = record {
  terminal = w.terminal;
  line = w.line;
  low = omega (arith, w.low);
  high = omega (arith, w.high);
  width = w.width;
}

within_fixed : (r : RangeToken) (a : Token) (x : ℕ) → col a ≡ x → WithinEnds r a
    → WithinEnds (fixed r x) a
within_fixed r a x e w = record {
  terminal = w.terminal;
  line = w.line;
  low = omega arith;
  high = omega arith;
  width = w.width;
}

-- a choice of the narrowed ranges is one of the ranges; one of the ranges with that column is one
-- of the narrowed
pub gives_wider : {g : Rules} {rs : Ranges} {v : Verdict} (t x : ℕ) → (range rs t).low.0 ≤ x
    → x ≤ (range rs t).high.0 → SomeChoiceGives g (fixed_at rs t x) v → SomeChoiceGives g rs v
gives_wider {g} {rs} {v} t x l h y = record {
  word = y.word;
  chosen = set_chosen rs t (fixed (range rs t) x) y.word (fixed_within (range rs t) x l h)
      y.chosen;
  rising = y.rising;
  verdict = y.verdict;
}

pub gives_fixed : {g : Rules} {rs : Ranges} {v : Verdict} (t x : ℕ) → t < length rs
    → (y : SomeChoiceGives g rs v) → col (token_at y.word t) ≡ x
    → SomeChoiceGives g (fixed_at rs t x) v
gives_fixed {g} {rs} {v} t x h y e = record {
  word = y.word;
  chosen = chosen_set rs t (fixed (range rs t) x) y.word h
      (within_fixed (range rs t) (token_at y.word t) x e (chosen_at rs y.word y.chosen t h))
      y.chosen;
  rising = y.rising;
  verdict = y.verdict;
}

-- ---- how many columns are left

-- by how much the ends stand apart, of all tokens
abbrev pub slack : Ranges → ℕ
slack [] = 0
slack (r ∷ rs) = (r.high.0 - r.low.0) + slack rs

pub slack_less : (rs : Ranges) (t x : ℕ) → t < length rs → (range rs t).low.0 < (range rs t).high.0
    → slack (fixed_at rs t x) < slack rs
slack_less rs t x = go rs t (fixed (range rs t) x) (omega arith)
  where
    go : (rs : Ranges) (t : ℕ) (r : RangeToken) → r.high.0 - r.low.0 ≡ 0 → t < length rs
        → (range rs t).low.0 < (range rs t).high.0 → slack (set rs t r) < slack rs
    go [] t r z h l = absurd (omega arith)
    go (s ∷ rs) zero r z h l = omega (arith, z, l)
    go (s ∷ rs) (suc t) r z h l = let q = go rs t r z (omega arith) l in omega (arith, q)
