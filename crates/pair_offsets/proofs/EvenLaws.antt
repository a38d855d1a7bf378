-- Six offsets can stand together if those of each three of the four starts can.
use mathlib.Core.Path.{◌≡◌, refl, sym, ap, ◌∙◌, subst}
use mathlib.Core.Bool.{Bool, true, false}
use Prim.Native.Nat.{ℕ, ◌+◌, ◌*◌, ◌/◌, ◌%◌, ◌≤◌, ◌<◌}
use native.Mathlib.Omega.{arith}
use Rattle.sets.specs.Says.{Says}
use Rattle.sets.proofs.Says.{says_iff}
use Rattle.pairs.specs.Relations.{less, equal, order, Offset, beside}
use Rattle.pairs.specs.Settings.{Corner, start₁, cut₁, start₂, cut₂, at}
use Rattle.pairs.proofs.OffsetLaws.{is_order, is_of}
use Rattle.pair_offsets.specs.declared.Frame.{Frame}
use Rattle.pair_offsets.specs.Frames.{rank_of}
use Rattle.pair_offsets.specs.Codes.{offset_code, offset_of}
use Rattle.pair_offsets.specs.Evens.{EvenOffsets, six_code_of, six_of, EvenSix, Trio, TrioSays}
use Rattle.pair_offsets.proofs.SayLaws.{code-of, of_code, offset_low}

-- 1. three of the starts

pub trio_of : {f : Frame} {l : Corner → Corner → Offset} → EvenOffsets (rank_of f) l
    → (c d e : Corner)
    → Trio (rank_of f (at c)) (rank_of f (at d)) (rank_of f (at e)) (l c d) (l d e) (l c e)
trio_of {f} {l} v c d e =
    record {
      sames =
          record {
            same₁ = λ h. (v.same c d (eq c d h), sym (v.alike c d e (eq c d h)));
            same₂ = λ h. (
              v.same d e (eq d e h),
              v.turn c d ∙ v.alike d e c (eq d e h)
                  ∙ v.turn e c,
            );
            same₃ = λ h. (v.same c e (eq c e h), v.alike c e d (eq c e h) ∙ v.turn e d);
          };
      tris =
          record {
            pqr = λ h k. v.three c d e (lt c d h) (lt d e k);
            prq = λ h k. rw (v.turn d e) (v.three c e d (lt c e h) (lt e d k));
            rpq = λ h k. rw (v.turn c e, v.turn d e) (v.three e c d (lt e c h) (lt c d k));
            qpr = λ h k. rw (v.turn c d) (v.three d c e (lt d c h) (lt c e k));
            qrp = λ h k. rw (v.turn c e, v.turn c d) (v.three d e c (lt d e h) (lt e c k));
            rqp = λ h k.
                rw (v.turn d e, v.turn c d, v.turn c e) (v.three e d c (lt e d h) (lt d c k));
          };
    }
  where
    eq : (a b : Corner) → rank_of f (at a) ≡ rank_of f (at b)
        → order (rank_of f (at a)) (rank_of f (at b)) ≡ equal
    eq a b h = is_order equal (rank_of f (at a)) (rank_of f (at b)) h

    lt : (a b : Corner) → rank_of f (at a) < rank_of f (at b)
        → order (rank_of f (at a)) (rank_of f (at b)) ≡ less
    lt a b h = is_order less (rank_of f (at a)) (rank_of f (at b)) h

-- 2. in another order

swap : {p q r : ℕ} {x y z : Offset} → Trio p q r x y z → Trio q p r x z y
swap t =
    record {
      sames =
          record {
            same₁ = λ e. ((t.sames.same₁ (sym e)).0, sym (t.sames.same₁ (sym e)).1);
            same₂ = λ e. t.sames.same₃ e;
            same₃ = λ e. t.sames.same₂ e;
          };
      tris =
          record {
            pqr = t.tris.qpr;
            prq = t.tris.qrp;
            rpq = t.tris.rqp;
            qpr = t.tris.pqr;
            qrp = t.tris.prq;
            rqp = t.tris.rpq;
          };
    }

turn : {p q r : ℕ} {x y z : Offset} → Trio p q r x y z → Trio q r p y z x
turn t =
    record {
      sames =
          record {
            same₁ = λ e. ((t.sames.same₂ e).0, sym (t.sames.same₂ e).1);
            same₂ = λ e. ((t.sames.same₃ (sym e)).0, sym (t.sames.same₃ (sym e)).1);
            same₃ = λ e. ((t.sames.same₁ (sym e)).0, (t.sames.same₁ (sym e)).1);
          };
      tris =
          record {
            pqr = t.tris.qrp;
            prq = t.tris.qpr;
            rpq = t.tris.pqr;
            qpr = t.tris.rqp;
            qrp = t.tris.rpq;
            rqp = t.tris.prq;
          };
    }

-- two of the three are one start
twice : {p r : ℕ} {z : Offset} → (p ≡ r → z ≡ beside) → Trio p p r beside z z
twice h =
    record {
      sames =
          record {
            same₁ = λ e. (refl, refl);
            same₂ = λ e. (h e, sym (h e));
            same₃ = λ e. (h e, sym (h e));
          };
      tris =
          record {
            pqr = λ i j. absurd (omega arith);
            prq = λ i j. absurd (omega arith);
            rpq = λ i j. absurd (omega arith);
            qpr = λ i j. absurd (omega arith);
            qrp = λ i j. absurd (omega arith);
            rqp = λ i j. absurd (omega arith);
          };
    }

-- 3. from the four threes to all

module _ (f : Frame) (t : ℕ)
    (t₁ : Trio f.start f.cut f.begin (six_of t start₁ cut₁) (six_of t cut₁ start₂)
    (six_of t start₁ start₂))
    (t₂ : Trio f.start f.cut f.split (six_of t start₁ cut₁) (six_of t cut₁ cut₂)
    (six_of t start₁ cut₂))
    (t₃ : Trio f.start f.begin f.split (six_of t start₁ start₂) (six_of t start₂ cut₂)
    (six_of t start₁ cut₂))
    (t₄ : Trio f.cut f.begin f.split (six_of t cut₁ start₂) (six_of t start₂ cut₂)
    (six_of t cut₁ cut₂)) where
  abbrev At : Corner → Corner → Corner → Type 0
  At c d e =
      Trio (rank_of f (at c)) (rank_of f (at d)) (rank_of f (at e)) (six_of t c d) (six_of t d e)
      (six_of t c e)

  -- two starts that are one, by any three with them
  one : (c d : Corner) → rank_of f (at c) ≡ rank_of f (at d) → six_of t c d ≡ beside
  one start₁ start₁ h = refl
  one start₁ cut₁ h = (t₁.sames.same₁ h).0
  one start₁ start₂ h = ((turn (swap t₁)).sames.same₁ h).0
  one start₁ cut₂ h = ((turn (swap t₂)).sames.same₁ h).0
  one cut₁ start₁ h = ((swap t₁).sames.same₁ h).0
  one cut₁ cut₁ h = refl
  one cut₁ start₂ h = ((turn t₁).sames.same₁ h).0
  one cut₁ cut₂ h = ((turn t₂).sames.same₁ h).0
  one start₂ start₁ h = ((turn (turn t₁)).sames.same₁ h).0
  one start₂ cut₁ h = ((swap (turn t₁)).sames.same₁ h).0
  one start₂ start₂ h = refl
  one start₂ cut₂ h = ((turn t₃).sames.same₁ h).0
  one cut₂ start₁ h = ((turn (turn t₂)).sames.same₁ h).0
  one cut₂ cut₁ h = ((swap (turn t₂)).sames.same₁ h).0
  one cut₂ start₂ h = ((swap (turn t₃)).sames.same₁ h).0
  one cut₂ cut₂ h = refl

  all_threes : (c d e : Corner) → At c d e
  all_threes start₁ start₁ start₁ = twice (one start₁ start₁)
  all_threes start₁ start₁ cut₁ = twice (one start₁ cut₁)
  all_threes start₁ start₁ start₂ = twice (one start₁ start₂)
  all_threes start₁ start₁ cut₂ = twice (one start₁ cut₂)
  all_threes start₁ cut₁ start₁ = turn (twice (one start₁ cut₁))
  all_threes start₁ cut₁ cut₁ = turn (turn (twice (one cut₁ start₁)))
  all_threes start₁ cut₁ start₂ = t₁
  all_threes start₁ cut₁ cut₂ = t₂
  all_threes start₁ start₂ start₁ = turn (twice (one start₁ start₂))
  all_threes start₁ start₂ cut₁ = turn (swap t₁)
  all_threes start₁ start₂ start₂ = turn (turn (twice (one start₂ start₁)))
  all_threes start₁ start₂ cut₂ = t₃
  all_threes start₁ cut₂ start₁ = turn (twice (one start₁ cut₂))
  all_threes start₁ cut₂ cut₁ = turn (swap t₂)
  all_threes start₁ cut₂ start₂ = turn (swap t₃)
  all_threes start₁ cut₂ cut₂ = turn (turn (twice (one cut₂ start₁)))
  all_threes cut₁ start₁ start₁ = turn (turn (twice (one start₁ cut₁)))
  all_threes cut₁ start₁ cut₁ = turn (twice (one cut₁ start₁))
  all_threes cut₁ start₁ start₂ = swap t₁
  all_threes cut₁ start₁ cut₂ = swap t₂
  all_threes cut₁ cut₁ start₁ = twice (one cut₁ start₁)
  all_threes cut₁ cut₁ cut₁ = twice (one cut₁ cut₁)
  all_threes cut₁ cut₁ start₂ = twice (one cut₁ start₂)
  all_threes cut₁ cut₁ cut₂ = twice (one cut₁ cut₂)
  all_threes cut₁ start₂ start₁ = turn t₁
  all_threes cut₁ start₂ cut₁ = turn (twice (one cut₁ start₂))
  all_threes cut₁ start₂ start₂ = turn (turn (twice (one start₂ cut₁)))
  all_threes cut₁ start₂ cut₂ = t₄
  all_threes cut₁ cut₂ start₁ = turn t₂
  all_threes cut₁ cut₂ cut₁ = turn (twice (one cut₁ cut₂))
  all_threes cut₁ cut₂ start₂ = turn (swap t₄)
  all_threes cut₁ cut₂ cut₂ = turn (turn (twice (one cut₂ cut₁)))
  all_threes start₂ start₁ start₁ = turn (turn (twice (one start₁ start₂)))
  all_threes start₂ start₁ cut₁ = turn (turn t₁)
  all_threes start₂ start₁ start₂ = turn (twice (one start₂ start₁))
  all_threes start₂ start₁ cut₂ = swap t₃
  all_threes start₂ cut₁ start₁ = swap (turn t₁)
  all_threes start₂ cut₁ cut₁ = turn (turn (twice (one cut₁ start₂)))
  all_threes start₂ cut₁ start₂ = turn (twice (one start₂ cut₁))
  all_threes start₂ cut₁ cut₂ = swap t₄
  all_threes start₂ start₂ start₁ = twice (one start₂ start₁)
  all_threes start₂ start₂ cut₁ = twice (one start₂ cut₁)
  all_threes start₂ start₂ start₂ = twice (one start₂ start₂)
  all_threes start₂ start₂ cut₂ = twice (one start₂ cut₂)
  all_threes start₂ cut₂ start₁ = turn t₃
  all_threes start₂ cut₂ cut₁ = turn t₄
  all_threes start₂ cut₂ start₂ = turn (twice (one start₂ cut₂))
  all_threes start₂ cut₂ cut₂ = turn (turn (twice (one cut₂ start₂)))
  all_threes cut₂ start₁ start₁ = turn (turn (twice (one start₁ cut₂)))
  all_threes cut₂ start₁ cut₁ = turn (turn t₂)
  all_threes cut₂ start₁ start₂ = turn (turn t₃)
  all_threes cut₂ start₁ cut₂ = turn (twice (one cut₂ start₁))
  all_threes cut₂ cut₁ start₁ = swap (turn t₂)
  all_threes cut₂ cut₁ cut₁ = turn (turn (twice (one cut₁ cut₂)))
  all_threes cut₂ cut₁ start₂ = turn (turn t₄)
  all_threes cut₂ cut₁ cut₂ = turn (twice (one cut₂ cut₁))
  all_threes cut₂ start₂ start₁ = swap (turn t₃)
  all_threes cut₂ start₂ cut₁ = swap (turn t₄)
  all_threes cut₂ start₂ start₂ = turn (turn (twice (one start₂ cut₂)))
  all_threes cut₂ start₂ cut₂ = turn (twice (one cut₂ start₂))
  all_threes cut₂ cut₂ start₁ = twice (one cut₂ start₁)
  all_threes cut₂ cut₂ cut₁ = twice (one cut₂ cut₁)
  all_threes cut₂ cut₂ start₂ = twice (one cut₂ start₂)
  all_threes cut₂ cut₂ cut₂ = twice (one cut₂ cut₂)

  turned : (c d : Corner) → six_of t c d ≡ six_of t d c
  turned start₁ start₁ = refl
  turned start₁ cut₁ = refl
  turned start₁ start₂ = refl
  turned start₁ cut₂ = refl
  turned cut₁ start₁ = refl
  turned cut₁ cut₁ = refl
  turned cut₁ start₂ = refl
  turned cut₁ cut₂ = refl
  turned start₂ start₁ = refl
  turned start₂ cut₁ = refl
  turned start₂ start₂ = refl
  turned start₂ cut₂ = refl
  turned cut₂ start₁ = refl
  turned cut₂ cut₁ = refl
  turned cut₂ start₂ = refl
  turned cut₂ cut₂ = refl

  pub even_six : EvenSix f t
  even_six =
      record {
        even =
            record {
              same = λ c d h. one c d (is_of (rank_of f (at c)) (rank_of f (at d)) equal h);
              alike = λ c d e h.
                  sym ((all_threes c d e).sames.same₁
                  (is_of (rank_of f (at c)) (rank_of f (at d)) equal h)).1;
              turn = turned;
              three = λ c d e h k.
                  (all_threes c d e).tris.pqr (is_of (rank_of f (at c)) (rank_of f (at d)) less h)
                  (is_of (rank_of f (at d)) (rank_of f (at e)) less k);
            };
      }

-- 4. offsets that can stand together are those of their number

digits : (a b c d e f t : ℕ) → a ≤ 3 → b ≤ 3 → c ≤ 3 → d ≤ 3 → e ≤ 3 → f ≤ 3
    → a + 4 * b + 16 * c + 64 * d + 256 * e + 1024 * f ≡ t
    → (a ≡ t % 4) × (b ≡ t / 4 % 4) × (c ≡ t / 16 % 4) × (d ≡ t / 64 % 4) × (e ≡ t / 256 % 4)
    × (f ≡ t / 1024 % 4)
digits a b c d e f t h₁ h₂ h₃ h₄ h₅ h₆ p =
    (omega arith, omega arith, omega arith, omega arith, omega arith, omega arith)

module _ (f : Frame) (l : Corner → Corner → Offset) (v : EvenOffsets (rank_of f) l) where
  six : (offset_code (l start₁ start₂) ≡ six_code_of l % 4)
      × (offset_code (l start₁ cut₂) ≡ six_code_of l / 4 % 4)
      × (offset_code (l cut₁ start₂) ≡ six_code_of l / 16 % 4)
      × (offset_code (l cut₁ cut₂) ≡ six_code_of l / 64 % 4)
      × (offset_code (l start₁ cut₁) ≡ six_code_of l / 256 % 4)
      × (offset_code (l start₂ cut₂) ≡ six_code_of l / 1024 % 4)
  six =
      digits (offset_code (l start₁ start₂)) (offset_code (l start₁ cut₂))
      (offset_code (l cut₁ start₂))
      (offset_code (l cut₁ cut₂)) (offset_code (l start₁ cut₁)) (offset_code (l start₂ cut₂))
      (six_code_of l)
      (offset_low (l start₁ start₂)) (offset_low (l start₁ cut₂)) (offset_low (l cut₁ start₂))
      (offset_low (l cut₁ cut₂)) (offset_low (l start₁ cut₁)) (offset_low (l start₂ cut₂)) refl

  back : (c d : Corner) (n : ℕ) → offset_code (l c d) ≡ n → l c d ≡ offset_of n
  back c d n e = sym (code-of (l c d)) ∙ ap offset_of e

  own : (c : Corner) → l c c ≡ beside
  own c = v.same c c (is_order equal (rank_of f (at c)) (rank_of f (at c)) refl)

  pub is_six : (c d : Corner) → l c d ≡ six_of (six_code_of l) c d
  is_six start₁ start₁ = own start₁
  is_six start₁ cut₁ = back start₁ cut₁ _ six.4
  is_six start₁ start₂ = back start₁ start₂ _ six.0
  is_six start₁ cut₂ = back start₁ cut₂ _ six.1
  is_six cut₁ start₁ = v.turn cut₁ start₁ ∙ back start₁ cut₁ _ six.4
  is_six cut₁ cut₁ = own cut₁
  is_six cut₁ start₂ = back cut₁ start₂ _ six.2
  is_six cut₁ cut₂ = back cut₁ cut₂ _ six.3
  is_six start₂ start₁ = v.turn start₂ start₁ ∙ back start₁ start₂ _ six.0
  is_six start₂ cut₁ = v.turn start₂ cut₁ ∙ back cut₁ start₂ _ six.2
  is_six start₂ start₂ = own start₂
  is_six start₂ cut₂ = back start₂ cut₂ _ six.5
  is_six cut₂ start₁ = v.turn cut₂ start₁ ∙ back start₁ cut₂ _ six.1
  is_six cut₂ cut₁ = v.turn cut₂ cut₁ ∙ back cut₁ cut₂ _ six.3
  is_six cut₂ start₂ = v.turn cut₂ start₂ ∙ back start₂ cut₂ _ six.5
  is_six cut₂ cut₂ = own cut₂

  pub six_path : l ≡ six_of (six_code_of l)
  six_path = λ i c d. is_six c d i

  pub six_low : six_code_of l < 4096
  six_low =
      omega (
        arith,
        offset_low (l start₁ start₂),
        offset_low (l start₁ cut₂),
        offset_low (l cut₁ start₂),
        offset_low (l cut₁ cut₂),
        offset_low (l start₁ cut₁),
        offset_low (l start₂ cut₂),
      )

  pub six_even : EvenSix f (six_code_of l)
  six_even = record { even = subst (EvenOffsets (rank_of f)) six_path v }

-- the digits of a number are the codes of its offsets
pub six_code : (t : ℕ)
    → (offset_code (six_of t start₁ start₂) ≡ t % 4)
    × (offset_code (six_of t start₁ cut₂) ≡ t / 4 % 4)
    × (offset_code (six_of t cut₁ start₂) ≡ t / 16 % 4)
    × (offset_code (six_of t cut₁ cut₂) ≡ t / 64 % 4)
    × (offset_code (six_of t start₁ cut₁) ≡ t / 256 % 4)
    × (offset_code (six_of t start₂ cut₂) ≡ t / 1024 % 4)
six_code t = (
  of_code (t % 4) (omega arith),
  of_code (t / 4 % 4) (omega arith),
  of_code (t / 16 % 4) (omega arith),
  of_code (t / 64 % 4) (omega arith),
  of_code (t / 256 % 4) (omega arith),
  of_code (t / 1024 % 4) (omega arith),
)

-- 5. what the four tests say

module _ (f : Frame) (t : ℕ) where
  abbrev Test₁ : Bool → Type 0
  Test₁ b = TrioSays f.start f.cut f.begin (t / 256 % 4) (t / 16 % 4) (t % 4) b

  abbrev Test₂ : Bool → Type 0
  Test₂ b = TrioSays f.start f.cut f.split (t / 256 % 4) (t / 64 % 4) (t / 4 % 4) b

  abbrev Test₃ : Bool → Type 0
  Test₃ b = TrioSays f.start f.begin f.split (t % 4) (t / 1024 % 4) (t / 4 % 4) b

  abbrev Test₄ : Bool → Type 0
  Test₄ b = TrioSays f.cut f.begin f.split (t / 16 % 4) (t / 1024 % 4) (t / 64 % 4) b

  says₁ : {b : Bool} → Test₁ b
      → Says b (Trio f.start f.cut f.begin (six_of t start₁ cut₁) (six_of t cut₁ start₂)
      (six_of t start₁ start₂))
  says₁ s =
      s.says (six_of t start₁ cut₁) (six_of t cut₁ start₂) (six_of t start₁ start₂) (six_code t).4
      (six_code t).2 (six_code t).0

  says₂ : {b : Bool} → Test₂ b
      → Says b (Trio f.start f.cut f.split (six_of t start₁ cut₁) (six_of t cut₁ cut₂)
      (six_of t start₁ cut₂))
  says₂ s =
      s.says (six_of t start₁ cut₁) (six_of t cut₁ cut₂) (six_of t start₁ cut₂) (six_code t).4
      (six_code t).3 (six_code t).1

  says₃ : {b : Bool} → Test₃ b
      → Says b (Trio f.start f.begin f.split (six_of t start₁ start₂) (six_of t start₂ cut₂)
      (six_of t start₁ cut₂))
  says₃ s =
      s.says (six_of t start₁ start₂) (six_of t start₂ cut₂) (six_of t start₁ cut₂) (six_code t).0
      (six_code t).5 (six_code t).1

  says₄ : {b : Bool} → Test₄ b
      → Says b (Trio f.cut f.begin f.split (six_of t cut₁ start₂) (six_of t start₂ cut₂)
      (six_of t cut₁ cut₂))
  says₄ s =
      s.says (six_of t cut₁ start₂) (six_of t start₂ cut₂) (six_of t cut₁ cut₂) (six_code t).2
      (six_code t).5 (six_code t).3

  pub says_even : {b₁ b₂ b₃ b₄ : Bool} → Test₁ b₁ → b₁ ≡ true → Test₂ b₂ → b₂ ≡ true → Test₃ b₃
      → b₃ ≡ true → Test₄ b₄ → Says b₄ (EvenSix f t)
  says_even s₁ e₁ s₂ e₂ s₃ e₃ s₄ =
      says_iff (even_six f t ((says₁ s₁).is e₁) ((says₂ s₂).is e₂) ((says₃ s₃).is e₃))
      (λ v. trio_of v.even cut₁ start₂ cut₂) (says₄ s₄)

  pub not_even₁ : {b : Bool} → Test₁ b → b ≡ false → EvenSix f t → ⊥
  not_even₁ s e v = (says₁ s).isnt e (trio_of v.even start₁ cut₁ start₂)

  pub not_even₂ : {b : Bool} → Test₂ b → b ≡ false → EvenSix f t → ⊥
  not_even₂ s e v = (says₂ s).isnt e (trio_of v.even start₁ cut₁ cut₂)

  pub not_even₃ : {b : Bool} → Test₃ b → b ≡ false → EvenSix f t → ⊥
  not_even₃ s e v = (says₃ s).isnt e (trio_of v.even start₁ start₂ cut₂)
