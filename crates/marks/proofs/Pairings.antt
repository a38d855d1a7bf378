-- The set of left lengths, built up from 1, and the marks of a span put together.
use mathlib.Core.Path.{◌≡◌, refl, sym, ◌∙◌, subst}
use mathlib.Core.Bool.{Bool, true, false}
use mathlib.Core.Logic.{⊎_elim, ◌↔◌}
use Prim.Native.Nat.{ℕ, ◌+◌, ◌-◌, ◌≤◌, ◌<◌}
use native.Mathlib.Omega.{arith}
use native.Mathlib.Decide.{dec_lt, ℕ_discrete}
use Rattle.sets.specs.Says.{Says}
use Rattle.sets.proofs.Says.{true_not_false}
use Rattle.sets.specs.Sets.{In}
use Rattle.sets.proofs.Sets.{in_zero, insert_same, insert_keeps, insert_only}
use Rattle.grammar.specs.declared.UnaryMark.{UnaryMark}
use Rattle.grammar.specs.declared.BinaryMark.{BinaryMark}
use Rattle.marks.specs.declared.SpanMarks.{SpanMarks}
use Rattle.marks.specs.Half.{Half, MayKeep, MayPair}
use Rattle.marks.specs.Later.{OffsideBy, OffalignBy}
use Rattle.marks.specs.Marked.{UnaryBy, BinaryBy, Included, Pairing}
use Rattle.sets.specs.Insertion.{insert}

pub pairing_none : (m : BinaryMark) (h : Half) (s to : ℕ) → to ≤ 1 → Pairing m h s to 0
pairing_none m h s to few = record {
  each = λ l a b. absurd (omega arith);
  only = λ l i. absurd (in_zero l i);
}

-- the next left length is asked for
pub pairing_more : (m : BinaryMark) (h : Half) (s left set r : ℕ) (yes : Bool)
    → 0 < left → Says yes (MayPair m h s left 1) → Included set left yes r → Pairing m h s left set
    → Pairing m h s (left + 1) r
pairing_more m h s left set r true pos a b p = record {
  each = λ l x y. go l x y (dec_lt l left);
  only = λ l i. ⊎_elim (λ j. let q = p.only l j in (q.0, omega arith))
      (λ e. (omega arith, omega arith)) (insert_only set left l (subst (λ (z : ℕ). In z l) now i));
}
  where
    now : r ≡ insert set left
    now = b.is refl

    go : (l : ℕ) → 0 < l → l < left + 1 → Dec (l < left) → In r l ↔ MayPair m h s l 1
    go l x y (yes z) = (
      λ i. ⊎_elim (λ j. (p.each l x z).0 j) (λ e. absurd (omega arith))
          (insert_only set left l (subst (λ (z : ℕ). In z l) now i)),
      λ q. subst (λ (z : ℕ). In z l) (sym now) (insert_keeps set left ((p.each l x z).1 q)),
    )
    go l x y (no z) =
        let e : left ≡ l = omega arith in
        subst (λ (z : ℕ). In r z ↔ MayPair m h s z 1) e
        (λ i. a.is refl, λ q. subst (λ (z : ℕ). In z left) (sym now) (insert_same set left))
pairing_more m h s left set r false pos a b p = record {
  each = λ l x y. go l x y (dec_lt l left);
  only = λ l i. let q = p.only l (subst (λ (z : ℕ). In z l) now i) in (q.0, omega arith);
}
  where
    now : r ≡ set
    now = b.isnt refl

    go : (l : ℕ) → 0 < l → l < left + 1 → Dec (l < left) → In r l ↔ MayPair m h s l 1
    go l x y (yes z) = (
      λ i. (p.each l x z).0 (subst (λ (z : ℕ). In z l) now i),
      λ q. subst
          (λ (z : ℕ). In z l) (sym now) ((p.each l x z).1 q),
    )
    go l x y (no z) =
        let e : left ≡ l = omega arith in
        subst (λ (z : ℕ). In r z ↔ MayPair m h s z 1) e (
          λ i. absurd (let j = p.only left (subst (λ (z : ℕ). In z left) now i) in omega arith),
          λ q. absurd (a.isnt refl q),
        )

-- a pairing up to the span's length says all of the mark
pub paired : (m : BinaryMark) (h : Half) (s len set l : ℕ) → l ≤ len → Pairing m h s len set
    → (0 < l → l < len → In set l) ↔ MayPair m h s l (len - l)
paired m h s len set l fit p = (
  λ f. go f (ℕ_discrete l 0) (ℕ_discrete l len),
  λ q x y. (p.each l x y).1 (record { pairs = λ a b. q.pairs a (omega arith) }),
)
  where
    go : (0 < l → l < len → In set l) → Dec (l ≡ 0) → Dec (l ≡ len) → MayPair m h s l (len - l)
    go f (yes e) d = record { pairs = λ a b c. absurd (omega arith) }
    go f (no n) (yes e) = record { pairs = λ a b c. absurd (omega arith) }
    go f (no n) (no o) = record {
      pairs = λ a b. ((p.each l (omega arith) (omega arith)).0
          (f (omega arith) (omega arith))).pairs a (omega arith);
    }

-- a flag says that it is set
pub says_itself : (b : Bool) → Says b (b ≡ true)
says_itself b = record { is = λ e. e; isnt = λ e f. true_not_false (sym f ∙ e) }

pub flagged : {b : Bool} {P : Type 0} → Says b P → (b ≡ true) ↔ P
flagged {b = true} s = (s.is, λ p. refl)
flagged {b = false} s = (s.is, λ p. absurd (s.isnt refl p))

-- the first token's column, the carried value, a flag and two sets that are right are the marks of
-- the span
pub unary_marked : (h : Half) (s len : ℕ) (k : SpanMarks)
    → OffsideBy k.first k.least ↔ MayKeep UnaryMark.Offside h s len
    → OffalignBy k.first k.least ↔ MayKeep UnaryMark.Offalign h s len
    → Says k.single (MayKeep UnaryMark.Single h s len) → (m : UnaryMark)
    → UnaryBy k m ↔ MayKeep m h s len
unary_marked h s len k a b c UnaryMark.None = (λ t. record { keeps = λ i l q. tt }, λ t. tt)
unary_marked h s len k a b c UnaryMark.Offside = a
unary_marked h s len k a b c UnaryMark.Offalign = b
unary_marked h s len k a b c UnaryMark.Single = flagged c

pub binary_marked : (h : Half) (s len : ℕ) (k : SpanMarks)
    → Pairing BinaryMark.Align h s len k.align → Pairing BinaryMark.Indent h s len k.indent
    → (m : BinaryMark) (l : ℕ) → l ≤ len → BinaryBy k len m l ↔ MayPair m h s l (len - l)
binary_marked h s len k a b BinaryMark.None l fit = (λ t. record { pairs = λ x y z. tt }, λ t. tt)
binary_marked h s len k a b BinaryMark.Align l fit =
    paired BinaryMark.Align h s len k.align l fit a
binary_marked h s len k a b BinaryMark.Indent l fit =
    paired BinaryMark.Indent h s len k.indent l fit b
