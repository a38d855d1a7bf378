-- Counts over the empty word: a count that is found is right, and once nothing is found all are
-- known.
use mathlib.Core.Path.{◌≡◌, refl, sym, ap, ap₂, ◌∙◌, subst}
use mathlib.Core.Bool.{Bool, true, false}
use mathlib.Core.List.{List, [], ◌∷◌}
use mathlib.Core.Logic.{◌⊎◌, inl, inr, ⊎_elim}
use Prim.Native.Nat.{ℕ, zero, suc, ◌+◌, ◌≤◌, ◌<◌}
use native.Mathlib.Omega.{arith}
use native.Mathlib.Decide.{ℕ_discrete, dec_lt}
use lib.ListN.{length, get_or, set, replicate, length-set, length-replicate}
use lib.Seq.{get_or-set_same, get_or-set_other}
use Rattle.sets.proofs.Basics.{clash}
use Rattle.grammar.proofs.Acyclic.{no_parts}
use Rattle.sets.proofs.Basics.{lt_or_eq}
use Rattle.grammar.specs.Trees.{Tree, empty, leaf, unary, binary, root, word, Rules}
use Rattle.grammar.specs.Choices.{AllPreferred, FirstTree}
use Rattle.grammar.specs.Rows.{row_count}
use Rattle.grammar.proofs.ChoiceLaws.{first_unique}
use Rattle.rows.specs.declared.Step.{Step}
use Rattle.tree_choices.specs.Picks.{PickedStep}
use Rattle.tree_choices.proofs.Pending.{kind_at, node_shape}
use Rattle.row_counts.specs.Capped.{capped}
use Rattle.row_counts.specs.Nulls.{Nulls, Sound, one_more_of, two_more_of, null_size, KidsKnown}
use Rattle.row_counts.specs.Nulls.{zeros}
use Rattle.row_counts.specs.Nulls.{NullsTried}
use Rattle.sets.specs.Either.{Either}
use Rattle.row_counts.proofs.Firsts.{first_shape}
use Rattle.row_counts.proofs.CappedLaws.{capped_le, capped_suc, capped_suc_two, capped_pos}
use Rattle.grammar.specs.Distinct.{Distinct}

-- a tree has a row
some_row : (t : Tree) → 0 < row_count t
some_row (empty A) = omega arith
some_row (leaf A t) = omega arith
some_row (unary A t) = omega arith
some_row (binary A s t) = omega arith

-- ---- the words beneath the empty word are empty

module _ {g : Rules} where
  first-of : {t : Tree} → AllPreferred g t → word t ≡ [] → FirstTree g (root t) [] t
  first-of f e = record { rooted = refl; spelled = e; first = f }

  module _ (z : List ℕ) (known : Sound g z) where
    -- a count that is known is that of the first tree
    known_count : (A : ℕ) (t : Tree) → FirstTree g A [] t → 0 < get_or z A 0
        → get_or z A 0 ≡ capped (row_count t)
    known_count A t f h = let x = known.each A h in
        x.2 ∙ ap (λ (u : Tree). capped (row_count u)) (first_unique x.1 f)

    pub small : (A : ℕ) → get_or z A 0 ≤ 4294967296
    small A = go (dec_lt 0 (get_or z A 0))
      where
        go : Dec (0 < get_or z A 0) → get_or z A 0 ≤ 4294967296
        go (yes h) = let x = known.each A h in omega (arith, x.2, capped_le (row_count x.0))
        go (no h) = omega arith

    one_more : (x n : ℕ) → x ≡ capped n → 0 < x → one_more_of x ≡ capped (suc n)
    one_more zero n e h = absurd (omega arith)
    one_more (suc x) n e h = ap (λ (y : ℕ). capped (suc y)) e ∙ capped_suc n

    two_more : (x y m n : ℕ) → x ≡ capped m → y ≡ capped n → 0 < x → 0 < y
        → two_more_of x y ≡ capped (suc (m + n))
    two_more zero y m n e f h k = absurd (omega arith)
    two_more (suc x) zero m n e f h k = absurd (omega arith)
    two_more (suc x) (suc y) m n e f h k =
        ap₂ (λ (a b : ℕ). capped (suc (a + b))) e f ∙ capped_suc_two m n

    -- where the children's are known, the node's is found
    size_known : (t : Tree) → AllPreferred g t → word t ≡ [] → KidsKnown z t
        → null_size z (kind_at t) ≡ capped (row_count t)
    unfolding capped
    size_known (empty A) f e k = refl
    size_known (leaf A t) f e k = refl
    size_known (unary A t) f e k =
        one_more (get_or z (root t) 0) (row_count t) (known_count (root t) t (first-of f.1 e) k) k
    size_known (binary A s t) f e k =
        let w = no_parts (word s) (word t) e in
        two_more (get_or z (root s) 0) (get_or z (root t) 0) (row_count s) (row_count t)
        (known_count (root s) s (first-of f.1.0 w.0) k.0)
        (known_count (root t) t (first-of f.1.1 w.1) k.1) k.0 k.1

    one_known : (x : ℕ) → 0 < one_more_of x → 0 < x
    one_known zero h = h
    one_known (suc x) h = omega arith

    two_known : (x y : ℕ) → 0 < two_more_of x y → (0 < x) × (0 < y)
    two_known zero y h = absurd (omega arith)
    two_known (suc x) zero h = absurd (omega arith)
    two_known (suc x) (suc y) h = (omega arith, omega arith)

    -- and where it is found, the children's are known
    kids_known : (t : Tree) → 0 < null_size z (kind_at t) → KidsKnown z t
    kids_known (empty A) h = tt
    kids_known (leaf A t) h = tt
    kids_known (unary A t) h = one_known (get_or z (root t) 0) h
    kids_known (binary A s t) h = two_known (get_or z (root s) 0) (get_or z (root t) 0) h

    -- ---- one try

    module _ (d : Distinct g) (A : ℕ) (t : Tree) (f : FirstTree g A [] t) (st : Step)
        (c : PickedStep g A [] false st) where
      tried_shape : st ≡ node_shape st.seeking t
      tried_shape = first_shape d t f.first A [] f.rooted f.spelled st c

      tried_size : null_size z st.kind ≡ null_size z (kind_at t)
      tried_size = ap (λ (x : Step). null_size z x.kind) tried_shape

      pub found_size : (n : ℕ) → n ≡ null_size z st.kind → 0 < n
          → n ≡ capped (row_count t)
      found_size n e h =
          let k = kids_known t (omega (arith, tried_size)) in
          e ∙ tried_size ∙ size_known t f.first f.spelled k

      pub not_known : null_size z st.kind ≡ 0 → KidsKnown z t → ⊥
      not_known e k = omega (
        arith,
        tried_size,
        size_known t f.first f.spelled
            k,
        capped_pos (row_count t) (some_row t),
      )

-- ---- tries one after the other

zeros_set : (l : List ℕ) (i n : ℕ) → i < length l → get_or l i 0 ≡ 0 → 0 < n
    → zeros (set l i n) < zeros l
zeros_set [] i n h e p = absurd (omega arith)
zeros_set (zero ∷ l) zero zero h e p = absurd (omega arith)
zeros_set (zero ∷ l) zero (suc n) h e p = omega arith
zeros_set (suc x ∷ l) zero n h e p = absurd (omega arith)
zeros_set (x ∷ l) (suc i) n h e p = omega (arith, zeros_set l i n (omega arith) e p)

module _ {g : Rules} where
  pub passed_none : {l : List ℕ} (D : ℕ → Type 0) → Sound g l
      → ((A : ℕ) (t : Tree) → D A → FirstTree g A [] t → KidsKnown l t → 0 < get_or l A 0)
      → NullsTried g D l l false
  passed_none D s f =
      record { sound = s; found = λ e. absurd (clash cc); same = λ e. refl; tried = λ e. f }

  pub passed_found : {l : List ℕ} (A n : ℕ) (t : Tree) → Sound g l → A < 64 → get_or l A 0 ≡ 0
      → 0 < n
      → FirstTree g A [] t → n ≡ capped (row_count t) → NullsTried g (λ B. B ≡ A) l (set l A n) true
  passed_found {l} A n t s h e p f q =
      record {
        sound = record { long = length-set l A n ∙ s.long; each = each };
        found = λ x. zeros_set l A n (omega (arith, s.long)) e p;
        same = λ x. absurd (clash cc);
        tried = λ x. absurd (clash cc);
      }
    where
      each : (B : ℕ) → 0 < get_or (set l A n) B 0
          → (u : Tree) × FirstTree g B [] u × (get_or (set l A n) B 0 ≡ capped (row_count u))
      each B k = go (ℕ_discrete B A)
        where
          go : Dec (B ≡ A) → (u : Tree) × FirstTree g B [] u
              × (get_or (set l A n) B 0 ≡ capped (row_count u))
          go (yes x) = (
            t,
            rw x f,
            ap (λ (y : ℕ). get_or (set l A n) y 0) x
                ∙ get_or-set_same l A n 0 (omega (arith, s.long)) ∙ q,
          )
          go (no x) =
              let o = get_or-set_other l A B n 0 x in
              let y = s.each B (omega arith) in
              (y.0, y.1, o ∙ y.2)

  pub passed_then : {l m o : List ℕ} {a b r : Bool} (D E F : ℕ → Type 0) → NullsTried g D l m a
      → NullsTried g E m o b → Either a b r → ((A : ℕ) → F A → D A ⊎ E A) → NullsTried g F l o r
  passed_then {l} {m} {o} {a} {b} {r} D E F x y e f =
      record {
        sound = y.sound;
        found = λ q. ⊎_elim (λ z. down z (bool b)) (λ z. up z (bool a)) (e.is q);
        same = λ q. let z = e.isnt q in y.same z.1 ∙ x.same z.0;
        tried = λ q A t d h k.
            let z = e.isnt q in
            let u = x.same z.0 in
            ⊎_elim (λ v. x.tried z.0 A t v h k)
            (λ v. subst (λ (w : List ℕ). 0 < get_or w A 0) u
            (y.tried z.1 A t v h (subst (λ (w : List ℕ). KidsKnown w t) (sym u) k)))
            (f A d);
      }
    where
      bool : (c : Bool) → (c ≡ true) ⊎ (c ≡ false)
      bool true = inl refl
      bool false = inr refl

      down : a ≡ true → (b ≡ true) ⊎ (b ≡ false) → zeros o < zeros l
      down z (inl w) = omega (arith, x.found z, y.found w)
      down z (inr w) = omega (arith, x.found z, ap zeros (y.same w))

      up : b ≡ true → (a ≡ true) ⊎ (a ≡ false) → zeros o < zeros l
      up z (inl w) = omega (arith, x.found w, y.found z)
      up z (inr w) = omega (arith, y.found z, ap zeros (x.same w))

  pub passed_more : {l m o : List ℕ} {a b r : Bool} (A : ℕ) → NullsTried g (λ B. B < A) l m a
      → NullsTried g (λ B. B ≡ A) m o b → Either a b r → NullsTried g (λ B. B < A + 1) l o r
  passed_more A x y e = passed_then _ _ _ x y e (λ B d. lt_or_eq B A d)

  -- ---- the end

  -- nothing is found any more: all are known
  pub nulls_of : {l m : List ℕ} {r : Bool} → ((B : ℕ) (u : Tree) → FirstTree g B [] u → B < 64)
      → r ≡ false → NullsTried g (λ B. B < 64) l m r → Nulls g m
  nulls_of {l} {m} {r} low q p =
      subst (Nulls g) (sym (p.same q))
      (record {
        long = sound.long;
        small = λ A. small l sound A;
        count = λ A t h f. known_count l sound A t f (all t f.first f.spelled A f);
      })
    where
      sound : Sound g l
      sound = subst (Sound g) (p.same q) p.sound

      here : (t : Tree) → AllPreferred g t → word t ≡ [] → KidsKnown l t → 0 < get_or l (root t) 0
      here t f e k = p.tried q (root t) t (low (root t) t (first-of f e)) (first-of f e) k

      at : (t : Tree) → AllPreferred g t → word t ≡ [] → 0 < get_or l (root t) 0
      at (empty A) f e = here (empty A) f e tt
      at (leaf A t) f e = here (leaf A t) f e tt
      at (unary A t) f e = here (unary A t) f e (at t f.1 e)
      at (binary A s t) f e = let w = no_parts (word s) (word t) e in
          here (binary A s t) f e (at s f.1.0 w.0, at t f.1.1 w.1)

      all : (t : Tree) → AllPreferred g t → word t ≡ [] → (A : ℕ) → FirstTree g A [] t
          → 0 < get_or l A 0
      all t f e A x = subst (λ (B : ℕ). 0 < get_or l B 0) x.rooted (at t f e)

-- ---- nothing is known at first

all_zero : (n q : ℕ) → ◌≡◌ {A = ℕ} (get_or (replicate n 0) q 0) 0
all_zero zero q = refl
all_zero (suc n) zero = refl
all_zero (suc n) (suc q) = all_zero n q

pub sound_none : (g : Rules) → Sound g (replicate 64 0)
sound_none g = record {
  long = length-replicate {A = ℕ} 64 0;
  each = λ A h. absurd
      (omega (arith, all_zero 64 A));
}
