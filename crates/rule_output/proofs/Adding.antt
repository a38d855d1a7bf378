-- Rules and nonterminals added one after the other.
use mathlib.Core.Path.{◌≡◌, refl, sym, ◌∙◌, ap}
use mathlib.Core.Logic.{◌⊎◌, inl, inr, ⊎_elim}
use mathlib.Core.Bool.{true, false}
use mathlib.Core.List.{List, [], ◌∷◌, ◌++◌, map, append_assoc, append-nil}
use Prim.Native.Nat.{ℕ, zero, suc, ◌+◌, ◌≤◌, ◌<◌}
use native.Mathlib.Omega.{arith}
use native.Mathlib.Numerals.{add-one}
use lib.ListN.{length, take, set, length-append, length-map, length-set}
use lib.Seq.{take-suc-set}
use Rattle.sets.proofs.Basics.{clash}
use Rattle.sets.proofs.Basics.{true_or_false}
use Rattle.grammar.specs.Trees.{Rules}
use Rattle.rule_words.specs.Words.{word_rule}
use Rattle.rule_output.specs.Emitting.{Emit, listed, Cause, Adds}

never : {P : Type 0} → true ≡ false → P
never e = absurd (clash cc)

-- over: only the cause is promised
pub adds_over : {o p : Emit} {new : Rules} {k : ℕ} → p.over ≡ true → Cause o k (length new)
    → Adds o p new k
adds_over e w =
    record {
      why = λ f. w;
      count = λ f. never (sym e ∙ f);
      room = λ f. never (sym e ∙ f);
      long = λ f. never (sym e ∙ f);
      rules = λ f. never (sym e ∙ f);
      next = λ f. never (sym e ∙ f);
      low = λ f. never (sym e ∙ f);
      few = λ f. never (sym e ∙ f);
    }

map_set : (w : List ℕ) (i x : ℕ) → map word_rule (set w i x) ≡ set (map word_rule w) i (word_rule x)
map_set [] i x = refl
map_set (y ∷ w) zero x = refl
map_set (y ∷ w) (suc i) x = ap (λ (l : Rules). word_rule y ∷ l) (map_set w i x)

-- a word more behind the first `count`
module _ (w : List ℕ) (count x : ℕ) where
  pub set_long : length (map word_rule (set w count x)) ≡ length (map word_rule w)
  set_long =
      length-map (set w count x) word_rule ∙ length-set w count x ∙ sym (length-map w word_rule)

  pub pushed : count < length (map word_rule w)
      → take (count + 1) (map word_rule (set w count x))
      ≡ take count (map word_rule w) ++ (word_rule x ∷ [])
  pushed h = rw (add-one, map_set) (take-suc-set (map word_rule w) count (word_rule x) h)

pub cause_more : (o : Emit) (k l i j : ℕ) → k ≤ i → l ≤ j → Cause o k l → Cause o i j
cause_more o k l i j p q (inl x) = inl x
cause_more o k l i j p q (inr (inl x)) = inr (inl (omega arith))
cause_more o k l i j p q (inr (inr x)) = inr (inr (omega arith))

pub adds_then : {o p q : Emit} {new : Rules} {k j : ℕ} (f : ℕ → Rules) → Adds o p new k
    → Adds p q (f p.next) j → Adds o q (new ++ f (o.next + k)) (k + j)
adds_then {o} {p} {q} {new} {k} {j} f a b =
    record {
      why = λ z. ⊎_elim (λ y. earlier (a.why y))
          (λ y. ⊎_elim (λ x. earlier (a.why x)) (λ x. later x y) (true_or_false p.over))
          (b.why z);
      count =
          λ z. let y = b.room z in
          b.count z ∙ ap (λ (i : ℕ). i + length (f p.next)) (a.count y)
          ∙ ap (λ (i : ℕ). o.count + length new + length (f i)) (a.next y) ∙ both_lengths;
      room = λ z. a.room (b.room z);
      long = λ z. b.long z ∙ a.long (b.room z);
      rules = λ z h.
          let y = b.room z in
          b.rules z (rw (a.long y) h) ∙ ap (λ (l : Rules). l ++ f p.next) (a.rules y h)
          ∙ append_assoc (listed o) new (f p.next)
          ∙ ap (λ (i : ℕ). listed o ++ (new ++ f i)) (a.next y);
      next = λ z. let y = b.room z in let u = a.next y in let v = b.next z in omega arith;
      low = λ z h. b.low z (a.low (b.room z) h);
      few = λ z h. b.few z (a.few (b.room z) h);
    }
  where
    both_lengths : o.count + length new + length (f (o.next + k)) ≡ o.count
        + length (new ++ f (o.next + k))
    both_lengths = omega (arith, length-append new (f (o.next + k)))

    earlier : Cause o k (length new) → Cause o (k + j) (length (new ++ f (o.next + k)))
    earlier = cause_more o k (length new) (k + j) (length (new ++ f (o.next + k))) (omega arith)
        (omega (arith, length-append new (f (o.next + k))))

    later : p.over ≡ false → (64 < p.next + j) ⊎ (128 < p.count + length (f p.next))
        → Cause o (k + j) (length (new ++ f (o.next + k)))
    later x (inl y) = let z = a.next x in inr (inl (omega arith))
    later x (inr y) = let z = a.count x in let v = ap (λ (i : ℕ). length (f i)) (a.next x) in
        inr (inr (omega (arith, length-append new (f (o.next + k)))))

-- rules that do not go by the next nonterminal
pub adds_also : {o p q : Emit} {new more : Rules} {k j : ℕ} → Adds o p new k → Adds p q more j
    → Adds o q (new ++ more) (k + j)
adds_also {more = more} a b = adds_then (λ i. more) a b

pub adds_same : {o p : Emit} {new new' : Rules} {k k' : ℕ} → new ≡ new' → k ≡ k' → Adds o p new k
    → Adds o p new' k'
adds_same e f a = rw (e, f) at a

-- rules that are the same where there was room
pub adds_when : {o p : Emit} {new new' : Rules} {k : ℕ} → length new ≡ length new'
    → (p.over ≡ false → new ≡ new') → Adds o p new k → Adds o p new' k
adds_when {o} {p} {new} {new'} {k} l e a =
    record {
      why = λ z. cause_more o k (length new) k (length new') (omega arith) (omega arith) (a.why z);
      count = λ z. a.count z ∙ ap (λ (i : ℕ). o.count + i) l;
      room = a.room;
      long = a.long;
      rules = λ z h. a.rules z h ∙ ap (λ (i : Rules). listed o ++ i) (e z);
      next = a.next;
      low = a.low;
      few = a.few;
    }

pub adds_nothing : (o : Emit) → Adds o o [] 0
adds_nothing o =
    record {
      why = λ z. inl z;
      count = λ z. omega arith;
      room = λ z. z;
      long = λ z. refl;
      rules = λ z h. sym (append-nil (listed o));
      next = λ z. omega arith;
      low = λ z h. h;
      few = λ z h. h;
    }
