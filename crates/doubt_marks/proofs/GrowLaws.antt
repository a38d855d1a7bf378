-- Bits set one after the other.
use mathlib.Core.Path.{◌≡◌, refl, sym, ap, ◌∙◌, subst}
use mathlib.Core.Logic.{◌⊎◌, inl, inr, ⊎_elim}
use mathlib.Core.List.{List}
use Prim.Native.Nat.{ℕ, ◌+◌, ◌*◌, ◌/◌, ◌%◌, ◌≤◌, ◌<◌}
use native.Mathlib.Omega.{arith}
use native.Mathlib.Decide.{ℕ_discrete}
use lib.ListN.{length, get_or, take, set, length-set}
use lib.Seq.{get_or-take, get_or-set_same, get_or-set_other}
use Rattle.std.proofs.lemmas.List.{length-take-le}
use Rattle.sets.specs.Sets.{In}
use Rattle.sets.specs.Insertion.{insert}
use Rattle.sets.proofs.Sets.{insert_same, insert_keeps, insert_only}
use Rattle.pair_offsets.specs.declared.Frame.{Frame}
use Rattle.pair_offsets.specs.Frames.{rank_of}
use Rattle.pair_offsets.specs.Evens.{EvenSix}
use Rattle.pair_offsets.specs.Lists.{ListsEvens}
use Rattle.pair_steps.specs.Ranks.{Ranked}
use Rattle.doubt_list.specs.Marks.{Bit}
use Rattle.doubt_marks.specs.Standing.{span_frame}
use Rattle.doubt_marks.specs.Growing.{Grows, Upto, OneBit}
use Rattle.doubt_marks.specs.Marking.{ByFrame, PairOver}

module _ (t : List ℕ) (p q : ℕ) (l : q < 128) (h : 2 * p + 1 < length t) where
  at : ℕ
  at = 2 * p + q / 64

  new : List ℕ
  new = set t (2 * p + q / 64) (insert (get_or t (2 * p + q / 64) 0) (q % 64))

  here : get_or new (2 * p + q / 64) 0 ≡ insert (get_or t (2 * p + q / 64) 0) (q % 64)
  unfolding new
  here = get_or-set_same t (2 * p + q / 64) (insert (get_or t (2 * p + q / 64) 0) (q % 64)) 0
      (omega arith)

  there : (n : ℕ) → (n ≡ 2 * p + q / 64 → ⊥) → get_or new n 0 ≡ get_or t n 0
  unfolding new
  there n = get_or-set_other t (2 * p + q / 64) n (insert (get_or t (2 * p + q / 64) 0) (q % 64)) 0

  keeps : (a b : ℕ) → Bit t a b → Bit new a b
  keeps a b i = by (ℕ_discrete (2 * a + b / 64) (2 * p + q / 64))
    where
      by : Dec (2 * a + b / 64 ≡ 2 * p + q / 64) → In (get_or new (2 * a + b / 64) 0) (b % 64)
      by (yes e) =
          let j : In (get_or t (2 * p + q / 64) 0) (b % 64) =
          subst (λ (n : ℕ). In (get_or t n 0) (b % 64)) e i in
          subst (λ (w : ℕ). In w (b % 64)) (sym (ap (λ (n : ℕ). get_or new n 0) e ∙ here))
          (insert_keeps (get_or t (2 * p + q / 64) 0) (q % 64) j)
      by (no e) = subst (λ (w : ℕ). In w (b % 64)) (sym (there (2 * a + b / 64) e)) i

  only : (a b : ℕ) → b < 128 → Bit new a b → Bit t a b ⊎ OneBit p q a b
  only a b k i = by (ℕ_discrete (2 * a + b / 64) (2 * p + q / 64))
    where
      by : Dec (2 * a + b / 64 ≡ 2 * p + q / 64) → Bit t a b ⊎ OneBit p q a b
      by (yes e) =
          ⊎_elim (λ j. inl (subst (λ (n : ℕ). In (get_or t n 0) (b % 64)) (sym e) j))
          (λ d. inr (record { row = omega (arith, d, e); column = omega (arith, d, e) }))
          (insert_only (get_or t (2 * p + q / 64) 0) (q % 64) (b % 64)
          (subst (λ (w : ℕ). In w (b % 64)) (ap (λ (n : ℕ). get_or new n 0) e ∙ here) i))
      by (no e) = inl (subst (λ (w : ℕ). In w (b % 64)) (there (2 * a + b / 64) e) i)

  set_here : Bit new p q
  set_here = subst (λ (w : ℕ). In w (q % 64)) (sym here)
      (insert_same (get_or t (2 * p + q / 64) 0) (q % 64))

  pub bit_set : Grows (OneBit p q) t
      (set t (2 * p + q / 64) (insert (get_or t (2 * p + q / 64) 0) (q % 64)))
  unfolding new
  bit_set =
      record {
        size = length-set t (2 * p + q / 64) (insert (get_or t (2 * p + q / 64) 0) (q % 64));
        keeps = keeps;
        has = λ a b o. rw (o.row, o.column) set_here;
        only = only;
      }

-- nothing is set
pub grows_still : {D : ℕ → ℕ → Type 0} {l : List ℕ} → ((p q : ℕ) → D p q → ⊥) → Grows D l l
grows_still n =
    record {
      size = refl;
      keeps = λ p q i. i;
      has = λ p q d. absurd
          (n p q d);
      only = λ p q l i. inl i;
    }

-- two shapes that are one, cut at one place
pub pair_still : {ns t : List ℕ} {f : Frame} {i j : ℕ} {l : List ℕ} → i ≡ j → f.cut ≡ f.split
    → Grows (PairOver ns t f i j) l l
pair_still e h = grows_still (λ p q d. d.differ e h)

pub grows_none : {D : ℕ → ℕ → ℕ → Type 0} {l : List ℕ} → Grows (Upto 0 D) l l
grows_none = grows_still (λ p q d. omega (arith, d.low))

pub grows_map : {D E : ℕ → ℕ → Type 0} {a b : List ℕ} → Grows D a b → ((p q : ℕ) → D p q → E p q)
    → ((p q : ℕ) → E p q → D p q) → Grows E a b
grows_map x f h =
    record {
      size = x.size;
      keeps = x.keeps;
      has = λ p q e. x.has p q (h p q e);
      only = λ p q l i. ⊎_elim inl (λ d. inr (f p q d)) (x.only p q l i);
    }

-- one more
pub grows_more : {D : ℕ → ℕ → ℕ → Type 0} {n : ℕ} {a b c : List ℕ} → Grows (Upto n D) a b → Grows
    (D n) b c
    → Grows (Upto (n + 1) D) a c
grows_more {D} {n} {a} {b} {c} x y =
    record {
      size = y.size ∙ x.size;
      keeps = λ p q i. y.keeps p q (x.keeps p q i);
      has = λ p q d. has p q d (ℕ_discrete d.place n);
      only = λ p q l i.
          ⊎_elim
          (λ j. ⊎_elim inl (λ u. inr
          (record { place = u.place; low = omega (arith, u.low); is = u.is })) (x.only p q l j))
          (λ d. inr (record { place = n; low = omega arith; is = d })) (y.only p q l i);
    }
  where
    has : (p q : ℕ) (d : Upto (n + 1) D p q) → Dec (d.place ≡ n) → Bit c p q
    has p q d (yes e) = y.has p q (subst (λ (k : ℕ). D k p q) e d.is)
    has p q d (no e) =
        y.keeps p q (x.has p q
        (record { place = d.place; low = omega (arith, d.low, e); is = d.is }))

-- over a frame that was made by its number
module _ {X : Frame → ℕ → ℕ → Type 0} {f : Frame} {k : ℕ} (e : f ≡ span_frame k) where
  pub frame_still : {l : List ℕ} → (Ranked (rank_of f) → ⊥) → Grows (ByFrame X k) l l
  frame_still n =
      grows_still (λ p q d. n (subst (λ (h : Frame). Ranked (rank_of h)) (sym e) d.ranked))

  pub frame_grows : {a b : List ℕ} → Ranked (rank_of f) → Grows (X f) a b → Grows (ByFrame X k) a b
  frame_grows r x =
      grows_map x
      (λ p q d.
      record {
        ranked = subst (λ (h : Frame). Ranked (rank_of h)) e r;
        holds = subst (λ (h : Frame). X h p q) e d;
      }) (λ p q d. subst (λ (h : Frame). X h p q) (sym e) d.holds)

-- the listed sixes alone
pub evens_taken : {f : Frame} {l : List ℕ} {e : ℕ} → e ≤ length l → ListsEvens f l 0 e
    → ListsEvens f (take e l) 0 (length (take e l))
evens_taken {f} {l} {e} h x =
    record {
      low = omega arith;
      all = λ s k v.
          let i = x.all s k v in
          (i.0, i.1, omega (arith, i.2, n), get_or-take e l i.0 0 i.2 ∙ i.3);
      only = λ i p q.
          let k : i < e = omega (arith, q, n) in
          subst (EvenSix f) (sym (get_or-take e l i 0 k)) (x.only i p k);
    }
  where
    n : length (take e l) ≡ e
    n = length-take-le e l h
