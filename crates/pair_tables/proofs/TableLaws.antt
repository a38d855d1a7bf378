-- Words of a table, read and joined.
use mathlib.Core.Path.{◌≡◌, sym, ap, ◌∙◌, subst}
use mathlib.Core.Logic.{◌⊎◌, inl, inr, ⊎_elim}
use mathlib.Core.Bool.{Bool, true, false}
use native.Mathlib.Decide.{ℕ_discrete}
use Rattle.sets.specs.Sets.{In}
use Rattle.sets.proofs.Bits.{in_and, in_or}
use Rattle.sets.proofs.Sets.{in_zero}
use mathlib.Core.List.{List, [], ◌∷◌}
use Prim.Native.Nat.{ℕ, zero, suc, ◌+◌, ◌%◌, ◌≤◌, ◌<◌}
use native.Mathlib.Omega.{arith}
use native.Mathlib.Numerals.{lt_of_le_of_ne}
use lib.Bits.{bit_and, bit_or, or_add_and, and_le_r}
use lib.Dec.{eqb}
use lib.ListN.{length, get_or, set, length-set}
use lib.Seq.{get_or-set_same, get_or-set_other, set-get_or}
use borrow.Author.Tests.{eqb-true, eqb-false}
use Rattle.pair_offsets.specs.declared.Frame.{Frame}
use Rattle.pair_steps.specs.declared.Node.{Node}
use Rattle.pair_steps.specs.declared.Words.{Words}
use Rattle.pair_steps.specs.Leaving.{first_stop_of, second_stop, StartsMost, OffsetsFound}
use Rattle.pair_steps.specs.Tables.{NextsBy, NextsOf}
use Rattle.pair_tables.specs.Stepping.{word_sum, Joined, Put}

pub nexts_by : (m : List ℕ) (f : Frame) (x y : Node) (n : Words) {p q u s : ℕ}
    → p ≡ first_stop_of x.kids f.cut f.stop → q ≡ first_stop_of y.kids f.split f.end
    → u ≡ second_stop x.kids f.stop → s ≡ second_stop y.kids f.end
    → NextsBy m f x y p q u s n → NextsOf m f x y n
nexts_by m f x y n ep eq eu es h = rw (ep, eq, eu, es) at h

-- the sum of words with one of them changed
sum_set : (t : List ℕ) (at v : ℕ) → at < length t
    → word_sum (set t at v) + get_or t at 0 ≡ word_sum t + v
sum_set [] at v h = absurd (omega arith)
sum_set (n ∷ l) zero v h = omega arith
sum_set (n ∷ l) (suc at) v h = omega (arith, sum_set l at v (omega arith))

or_least : (a b : ℕ) → a ≤ bit_or a b
or_least a b = omega (arith, or_add_and a b, and_le_r a b)

pub joined : (t : List ℕ) (at s : ℕ) → at < length t
    → Joined t (set t at (bit_or (get_or t at 0) s)) at s
    (eqb (bit_or (get_or t at 0) s) (get_or t at 0))
joined t at s h =
    record {
      size = length-set t at (bit_or (get_or t at 0) s);
      other = λ i n. get_or-set_other t at i (bit_or (get_or t at 0) s) 0 n;
      word = get_or-set_same t at (bit_or (get_or t at 0) s) 0 h;
      still = λ e. ap (set t at) (eqb-true (bit_or (get_or t at 0) s) (get_or t at 0) e)
          ∙ set-get_or t at 0;
      least = omega (arith, sum_set t at (bit_or (get_or t at 0) s) h, or_least (get_or t at 0) s);
      more = λ e.
          let n = eqb-false (bit_or (get_or t at 0) s) (get_or t at 0) e in
          let k = or_least (get_or t at 0) s in
          let d : get_or t at 0 < bit_or (get_or t at 0) s = lt_of_le_of_ne k (λ q. n (sym q)) in
          omega (arith, sum_set t at (bit_or (get_or t at 0) s) h);
    }

-- three words joined, one after the other
module _ {t u v w : List ℕ} {a b c s p q : ℕ} {x y z : Bool} (j : Joined t u a s x)
    (k : Joined u v b p y) (l : Joined v w c q z) where
  joined_in : {o n : List ℕ} {at e : ℕ} {r : Bool} → Joined o n at e r → (i g : ℕ)
      → In (get_or n i 0) g → In (get_or o i 0) g ⊎ ((i ≡ at) × In e g)
  joined_in {o} {n} {at} {e} m i g h = by (ℕ_discrete i at)
    where
      by : Dec (i ≡ at) → In (get_or o i 0) g ⊎ ((i ≡ at) × In e g)
      by (yes d) =
          ⊎_elim (λ f. inl (subst (λ (z : ℕ). In (get_or o z 0) g) (sym d) f)) (λ f. inr (d, f))
          ((in_or (get_or o at 0) e g).0 (subst (λ (z : ℕ). In z g) m.word
          (subst (λ (z : ℕ). In (get_or n z 0) g) d h)))
      by (no d) = inl (subst (λ (z : ℕ). In z g) (m.other i d) h)

  joined_keeps : {o n : List ℕ} {at e : ℕ} {r : Bool} → Joined o n at e r → (i g : ℕ)
      → In (get_or o i 0) g → In (get_or n i 0) g
  joined_keeps {o} {n} {at} {e} m i g h = by (ℕ_discrete i at)
    where
      by : Dec (i ≡ at) → In (get_or n i 0) g
      by (yes d) =
          subst (λ (z : ℕ). In (get_or n z 0) g) (sym d)
          (subst (λ (z : ℕ). In z g) (sym m.word)
          ((in_or (get_or o at 0) e g).1 (inl (subst (λ (z : ℕ). In (get_or o z 0) g) d h))))
      by (no d) = subst (λ (z : ℕ). In z g) (sym (m.other i d)) h

  joined_has : {o n : List ℕ} {at e : ℕ} {r : Bool} → Joined o n at e r → (g : ℕ) → In e g
      → In (get_or n at 0) g
  joined_has {o} {n} {at} {e} m g h =
      subst (λ (z : ℕ). In z g) (sym m.word) ((in_or (get_or o at 0) e g).1 (inr h))

  pub put_all : (r : Bool) → (r ≡ true → (x ≡ true) × (y ≡ true) × (z ≡ true))
      → (r ≡ false → (x ≡ false) ⊎ (y ≡ false) ⊎ (z ≡ false)) → Put t w a b c s p q r
  put_all r e n =
      record {
        size = l.size ∙ (k.size ∙ j.size);
        keeps = λ i g h. joined_keeps l i g (joined_keeps k i g (joined_keeps j i g h));
        has₁ = λ g h. joined_keeps l a g (joined_keeps k a g (joined_has j g h));
        has₂ = λ g h. joined_keeps l b g (joined_has k g h);
        has₃ = λ g h. joined_has l g h;
        only = λ i g h.
            ⊎_elim
            (λ m.
            ⊎_elim (λ n. ⊎_elim (λ o. inl o) (λ o. inr (inl o)) (joined_in j i g n))
            (λ n. inr (inr (inl n)))
            (joined_in k i g m)) (λ m. inr (inr (inr m))) (joined_in l i g h);
        other = λ i f g h. l.other i h ∙ (k.other i g ∙ j.other i f);
        still = λ d. let f = e d in l.still f.2 ∙ (k.still f.1 ∙ j.still f.0);
        least = omega (arith, j.least, k.least, l.least);
        more = λ d.
            ⊎_elim (λ f. omega (arith, j.more f, k.least, l.least))
            (⊎_elim (λ f. omega (arith, j.least, k.more f, l.least))
            (λ f. omega (arith, j.least, k.least, l.more f))) (n d);
      }

-- a word that has a set
has_and : (a b z : ℕ) → bit_and a b ≡ b → In b z → In a z
has_and a b z e h = ((in_and a b z).0 (subst (λ (n : ℕ). In n z) (sym e) h)).0

pub has_both : {a b s c d r : ℕ} → a ≡ c → b ≡ d → s ≡ r → bit_and (bit_and a b) s ≡ s → (z : ℕ)
    → In r z → In c z × In d z
has_both {a} {b} {s} {c} {d} {r} ea eb es e z h =
    let i = subst (λ (n : ℕ). In n z) (sym es) h in
    let j = (in_and a b z).0 (has_and (bit_and a b) s z e i) in
    (subst (λ (n : ℕ). In n z) ea j.0, subst (λ (n : ℕ). In n z) eb j.1)

pub has_next : {p c : ℕ} (t : List ℕ) (q : ℕ) → p ≡ c → eqb (bit_and (get_or t p 0) q) q ≡ true
    → (z : ℕ) → In q z → In (get_or t c 0) z
has_next {p} t q e h z i =
    subst (λ (n : ℕ). In (get_or t n 0) z) e
    (has_and (get_or t p 0) q z (eqb-true (bit_and (get_or t p 0) q) q h) i)

-- where the starts have no offset at all, no six is found
pub none_most : {f : Frame} {x y : Node} {w : Words} {m : ℕ} (list : List ℕ) (from end : ℕ)
    → StartsMost f x y w m → m ≡ 0 → OffsetsFound f x y w list from end 0
none_most {f} {x} {y} {w} list from end s e =
    record {
      all = λ k l.
          absurd
          (in_zero (get_or list l.place 0 % 4)
          (subst (λ (n : ℕ). In n (get_or list l.place 0 % 4)) e
          (s.has (get_or list l.place 0 % 4) (omega arith) l.leaves.ac)));
      only = λ k i. absurd (in_zero k i);
    }
