-- Lists of sixes of offsets, as the loops make and read them.
use mathlib.Core.Path.{◌≡◌, refl, sym, ap, ◌∙◌, subst}
use mathlib.Core.Logic.{◌⊎◌, inl, inr}
use mathlib.Core.List.{List}
use Prim.Native.Nat.{ℕ, ◌+◌, ◌*◌, ◌%◌, ◌≤◌, ◌<◌}
use native.Mathlib.Omega.{arith}
use native.Mathlib.Decide.{dec_lt}
use lib.ListN.{length, get_or, set, length-set}
use lib.Seq.{get_or-set_same, get_or-set_other}
use Rattle.sets.specs.Sets.{In}
use Rattle.sets.specs.Insertion.{insert}
use Rattle.sets.proofs.Sets.{in_dec, in_zero, insert_same, insert_keeps, insert_only}
use Rattle.pair_offsets.specs.declared.Frame.{Frame}
use Rattle.pair_offsets.specs.declared.Masks.{Masks}
use Rattle.pair_offsets.specs.Evens.{EvenSix}
use Rattle.pairs.specs.Relations.{equal}
use Rattle.pairs.proofs.OffsetLaws.{is_order}
use Rattle.pairs.specs.Settings.{Corner, start₁, start₂, at}
use Rattle.pair_offsets.specs.Codes.{offset_code}
use Rattle.pair_offsets.specs.Frames.{rank_of}
use Rattle.pair_offsets.specs.Lists.{Held, OffsetAdded, LeftWith, OffsetsLeft, Pushed}
use Rattle.pair_offsets.specs.Lists.{Listing}
use Rattle.pair_offsets.specs.Lists.{ListsEvens}
use Rattle.pair_offsets.proofs.SayLaws.{of_code}

-- 1. reading

pub added : (m : Masks) (t r : ℕ) → Held m t → OffsetAdded m t r (insert r (t % 4))
added m t r h =
    record {
      keeps = λ k i. insert_keeps r (t % 4) i;
      adds = λ h. insert_same r (t % 4);
      only = λ k i n. (h, by k n (insert_only r (t % 4) k i));
    }
  where
    by : (k : ℕ) → (In r k → ⊥) → In r k ⊎ (k ≡ t % 4) → t % 4 ≡ k
    by k n (inl i) = absurd (n i)
    by k n (inr e) = sym e

pub not_added : (m : Masks) (t r : ℕ) → (Held m t → ⊥) → OffsetAdded m t r r
not_added m t r n =
    record { keeps = λ k i. i; adds = λ h. absurd (n h); only = λ k i o. absurd (o i) }

pub left_none : (list : List ℕ) (from : ℕ) (m : Masks) → OffsetsLeft list from from m 0
left_none list from m =
    record {
      all = λ k l. absurd (omega (arith, l.low, l.high));
      only = λ k i. absurd (in_zero k i);
    }

pub left_more : {list : List ℕ} {from i r s : ℕ} {m : Masks} → from ≤ i
    → OffsetsLeft list from i m r
    → OffsetAdded m (get_or list i 0) r s → OffsetsLeft list from (i + 1) m s
left_more {list} {from} {i} {r} {s} {m} b so a =
    record { all = λ k l. here k l (dec_lt l.place i); only = λ k h. from_of k h (in_dec r k) }
  where
    here : (k : ℕ) (l : LeftWith list from (i + 1) m k) → Dec (l.place < i) → In s k
    here k l (yes q) =
        a.keeps k
        (so.all k (record {
          place = l.place;
          low = l.low;
          high = q;
          held = l.held;
          starts = l.starts;
        }))
    here k l (no q) =
        let z : l.place ≡ i = omega (arith, l.high) in
        let e : get_or list i 0 % 4 ≡ k = subst (λ (n : ℕ). get_or list n 0 % 4 ≡ k) z l.starts in
        subst (In s) e (a.adds (subst (λ (n : ℕ). Held m (get_or list n 0)) z l.held))

    from_of : (k : ℕ) → In s k → Dec (In r k) → LeftWith list from (i + 1) m k
    from_of k h (yes q) =
        let l = so.only k q in
        record {
          place = l.place;
          low = l.low;
          high = omega (arith, l.high);
          held = l.held;
          starts = l.starts;
        }
    from_of k h (no q) =
        let z = a.only k h q in
        record { place = i; low = b; high = omega arith; held = z.0; starts = z.1 }

-- the other listed sixes add nothing where all that are left have been found
pub left_all : {list : List ℕ} {from i end r : ℕ} {m : Masks} → i ≤ end → r ≡ m.ac
    → OffsetsLeft list from i m r → OffsetsLeft list from end m r
left_all {r = r} {m} h e so =
    record {
      all = λ k l. subst (λ (s : ℕ). In s k) (sym e) (subst (In m.ac) l.starts l.held.ac);
      only = λ k i.
          let l = so.only k i in
          record {
            place = l.place;
            low = l.low;
            high = omega (arith, l.high);
            held = l.held;
            starts = l.starts;
          };
    }

-- 2. making

pub pushed : (f : Frame) (old : List ℕ) (n t : ℕ) → n < length old → EvenSix f t
    → Pushed f old (set old n t) n t (n + 1)
pushed f old n t h v =
    record {
      size = length-set old n t;
      low = omega arith;
      high = omega arith;
      kept = λ i p. get_or-set_other old n i t 0 p;
      put = λ v. (omega arith, get_or-set_same old n t 0 h);
      only = λ p. (v, get_or-set_same old n t 0 h);
    }

pub passed : (f : Frame) (old : List ℕ) (n t : ℕ) → (EvenSix f t → ⊥) → Pushed f old old n t n
passed f old n t v =
    record {
      size = refl;
      low = omega arith;
      high = omega arith;
      kept = λ i p. refl;
      put = λ e. absurd (v e);
      only = λ p. absurd (omega arith);
    }

pub listing_none : (f : Frame) (old : List ℕ) (from : ℕ) → Listing f old old from 0 from
listing_none f old from =
    record {
      size = refl;
      low = omega arith;
      high = omega arith;
      kept = λ i p. refl;
      beyond = λ i p. refl;
      all = λ s p. absurd (omega arith);
      only = λ i p q. absurd (omega arith);
    }

pub listing_more : {f : Frame} {old mid new : List ℕ} {from t n r : ℕ} → Listing f old mid from t n
    → Pushed f mid new n t r → Listing f old new from (t + 1) r
listing_more {f} {old} {mid} {new} {from} {t} {n} {r} a b =
    record {
      size = b.size ∙ a.size;
      low = omega (arith, a.low, b.low);
      high = omega (arith, a.high, b.high);
      kept = λ i p. b.kept i (λ e. omega (arith, a.low)) ∙ a.kept i p;
      beyond = λ i p. b.kept i (λ e. omega (arith, a.high)) ∙ a.beyond i (omega arith);
      all = λ s p v. by s p v (dec_lt s t);
      only = λ i p q. of i p q (dec_lt i n);
    }
  where
    by : (s : ℕ) → s < t + 1 → EvenSix f s → Dec (s < t)
        → (i : ℕ) × (from ≤ i) × (i < r) × (get_or new i 0 ≡ s)
    by s p v (yes q) =
        let i = a.all s q v in
        (i.0, i.1, omega (arith, i.2, b.low), b.kept i.0 (λ e. omega (arith, i.2)) ∙ i.3)
    by s p v (no q) =
        let e : s ≡ t = omega arith in
        let z = b.put (subst (EvenSix f) e v) in
        (n, a.low, z.0, z.1 ∙ sym e)

    of : (i : ℕ) → from ≤ i → i < r → Dec (i < n) → EvenSix f (get_or new i 0)
    of i p q (yes h) = subst (EvenSix f) (sym (b.kept i (λ e. omega arith))) (a.only i p h)
    of i p q (no h) =
        let e : i ≡ n = omega (arith, b.high) in
        let z = b.only (omega arith) in
        subst (λ (m : ℕ). EvenSix f (get_or new m 0)) (sym e) (subst (EvenSix f) (sym z.1) z.0)

-- 3. a list of all sixes, for each frame with the same starts

even_same : {f g : Frame} {s : ℕ} → ((c : Corner) → rank_of f (at c) ≡ rank_of g (at c))
    → EvenSix f s
    → EvenSix g s
even_same {f} {g} {s} e v =
    record {
      even =
          record {
            same = λ c d h. v.even.same c d (rw (e c, e d) h);
            alike = λ c d b h. v.even.alike c d b (rw (e c, e d) h);
            turn = v.even.turn;
            three = λ c d b h k. v.even.three c d b (rw (e c, e d) h) (rw (e d, e b) k);
          };
    }

pub lists_alike : {f g : Frame} {list : List ℕ} {from end : ℕ}
    → ((c : Corner) → rank_of f (at c) ≡ rank_of g (at c))
    → ListsEvens f list from end → ListsEvens g list from end
lists_alike e l =
    record {
      low = l.low;
      all = λ s h v. l.all s h (even_same (λ c. sym (e c)) v);
      only = λ i h k. even_same e (l.only i h k);
    }

pub listed : {f : Frame} {old new : List ℕ} {from end : ℕ} → Listing f old new from 4096 end
    → ListsEvens f new from end
listed l = record { low = l.low; all = l.all; only = l.only }

-- 3. two starts that are one

-- their offset is 0
one_zero : {f : Frame} {t : ℕ} → f.start ≡ f.begin → EvenSix f t → t % 4 ≡ 0
one_zero {f} {t} e v =
    let o = is_order equal f.start f.begin e in
    sym (of_code (t % 4) (omega arith)) ∙ ap offset_code (v.even.same start₁ start₂ o)

skips : {f : Frame} {old new : List ℕ} {from t n : ℕ} → f.start ≡ f.begin
    → (t % 4 ≡ 0 → ⊥) → Listing f old new from t n → Listing f old new from (t + 1) n
skips {f} {new = new} {t = t} {n} e h a = listing_more a (passed f new n t (λ v. h (one_zero e v)))

pub listing_four : {f : Frame} {old mid new : List ℕ} {from n r : ℕ} (t : ℕ) → f.start ≡ f.begin
    → Listing f old mid from (4 * t) n
    → Pushed f mid new n (4 * t) r → Listing f old new from (4 * (t + 1)) r
listing_four {f} {old} {new = new} {from} {r = r} t e a b =
    let one = listing_more a b in
    let two = skips e (λ h. omega arith) one in
    let three = skips e (λ h. omega arith) two in
    let four = skips e (λ h. omega arith) three in
    let d : 4 * t + 1 + 1 + 1 + 1 ≡ 4 * (t + 1) = omega arith in
    subst (λ (k : ℕ). Listing f old new from k r) d four
