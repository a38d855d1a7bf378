-- Laws of a tally: what it has comes from choices that stand, and each choice that is tried and
-- stands is counted.
use mathlib.Core.Path.{◌≡◌, refl, sym, ap, ◌∙◌, subst, subst₂}
use mathlib.Core.Logic.{◌⊎◌, inl, inr, ⊎_elim}
use mathlib.Core.Bool.{Bool, true, false}
use Prim.Native.Nat.{ℕ, ◌≤◌}
use native.Mathlib.Omega.{arith}
use Rattle.sets.specs.Says.{Says}
use Rattle.sets.specs.Sets.{In}
use Rattle.sets.proofs.Sets.{insert_same, insert_keeps, insert_only, insert_ge, in_zero}
use Rattle.joins.specs.declared.Tally.{Tally}
use Rattle.grammar.specs.Choices.{Same}
use Rattle.joins.specs.Passes.{Took, fell, stood, no_tally}
use Rattle.sets.specs.Insertion.{insert}

-- the choices (rule, left length) that are done
abbrev pub Done : Type 1
Done = ℕ → ℕ → Type 0

-- which choices stand: nonterminal, rule, left length
abbrev pub StandingChoices : Type 1
StandingChoices = ℕ → ℕ → ℕ → Type 0

-- ---- a try adds to the sets

pub took_one : {fits below : Type 0} {a : ℕ} {t u : Tally} → Took fits below a t u → t.one ≤ u.one
took_one (fell n e) = let q = ap (λ (x : Tally). x.one) e in omega arith
took_one {a = a} {t} (stood again q w f) = omega (arith, insert_ge t.one a, f.one)

pub took_two : {fits below : Type 0} {a : ℕ} {t u : Tally} → Took fits below a t u → t.two ≤ u.two
took_two (fell n e) = let q = ap (λ (x : Tally). x.two) e in omega arith
took_two {a = a} {t} (stood again q w f) =
    ⊎_elim (λ x. omega (arith, insert_ge t.two a, x.0)) (λ x. omega (arith, x.0)) f.two

pub took_in_one : {fits below : Type 0} {a : ℕ} {t u : Tally} → Took fits below a t u → (A : ℕ)
    → In t.one A → In u.one A
took_in_one (fell n e) A m = subst (λ (x : Tally). In x.one A) (sym e) m
took_in_one {a = a} {t} (stood again q w f) A m =
    subst (λ (x : ℕ). In x A) (sym f.one) (insert_keeps t.one a m)

pub took_in_two : {fits below : Type 0} {a : ℕ} {t u : Tally} → Took fits below a t u → (A : ℕ)
    → In t.two A → In u.two A
took_in_two (fell n e) A m = subst (λ (x : Tally). In x.two A) (sym e) m
took_in_two {a = a} {t} (stood again q w f) A m = ⊎_elim
    (λ x. subst (λ (z : ℕ). In z A) (sym x.0) (insert_keeps t.two a m))
    (λ x. subst (λ (z : ℕ). In z A) (sym x.0) m) f.two

-- ---- what the tally has

-- of the rules it has seen, each stands and is done; what is in its sets has P, and Q
pub record From (st : StandingChoices) (P Q : ℕ → Type 0) (D : Done) (t : Tally) : Type 0 where
  pub seen : (A : ℕ) → In t.seen A → (j : ℕ) × (k : ℕ) × D j k × st A j k
  pub one : (A : ℕ) → In t.one A → P A
  pub two : (A : ℕ) → In t.two A → Q A

module _ (st : StandingChoices) (P Q : ℕ → Type 0) where
  pub from_none : (D : Done) → From st P Q D no_tally
  from_none D = record {
    seen = λ A h. absurd (in_zero A h);
    one = λ A h. absurd (in_zero A h);
    two = λ A h. absurd (in_zero A h);
  }

  pub from_same : (D E : Done) (t : Tally) → ((j k : ℕ) → D j k → E j k) → From st P Q D t
      → From st P Q E t
  from_same D E t to h = record {
    seen = λ A i. let q = h.seen A i in (q.0, q.1, to q.0 q.1 q.2, q.3);
    one = h.one;
    two = h.two;
  }

  -- what a choice (i, l) of a brings along where it fits
  pub record Brings (fits twice : Type 0) (a i l : ℕ) : Type 0 where
    pub stands : fits → st a i l
    pub one : fits → P a
    pub below : fits → twice → Q a
    pub apart : (j k : ℕ) → st a j k → fits → (Same j k i l → ⊥) → Q a

  -- the choice (i, l) is tried
  pub from_took : (D E : Done) (i l a : ℕ) {fits below : Type 0} (t u : Tally) → (D i l → ⊥)
      → ((j k : ℕ) → D j k → E j k) → (fits → E i l)
      → Brings fits below a i l → Took fits below a t u → From st P Q D t → From st P Q E u
  from_took D E i l a t u new to here br (fell n e) h =
      subst (From st P Q E) (sym e) (from_same D E t to h)
  from_took D E i l a t u new to here br (stood again q w f) h = record {
    seen = λ A m. ⊎_elim (λ x. let p = h.seen A x in (p.0, p.1, to p.0 p.1 p.2, p.3))
        (λ x. (i, l, here q, back A x))
        (insert_only t.seen a A (subst (λ (x : ℕ). In x A) f.seen m));
    one = λ A m. ⊎_elim (h.one A) (λ x. subst P (sym x) (br.one q))
        (insert_only t.one a A (subst (λ (x : ℕ). In x A) f.one m));
    two = λ A m.
        ⊎_elim (λ x. ⊎_elim (h.two A) (λ y. subst Q (sym y) (why x.1))
        (insert_only t.two a A (subst (λ (z : ℕ). In z A) x.0 m)))
        (λ x. h.two A (subst (λ (z : ℕ). In z A) x.0 m)) f.two;
  }
    where
      back : (A : ℕ) → A ≡ a → st A i l
      back A e = subst (λ (x : ℕ). st x i l) (sym e) (br.stands q)

      why : In t.seen a ⊎ (again ≡ true) → Q a
      why (inl m) = let p = h.seen a m in
          br.apart p.0 p.1 p.3 q (λ e. new (subst₂ D e.0 e.1 p.2))
      why (inr e) = br.below q (w.is e)

  -- a pass is resumed with other sets
  pub from_sets : (D : Done) (b t : Tally) → From st P Q D b → ((A : ℕ) → In t.one A → P A)
      → ((A : ℕ) → In t.two A → Q A)
      → From st P Q D (record { seen = b.seen; one = t.one; two = t.two })
  from_sets D b t h p q = record { seen = h.seen; one = p; two = q }

-- ---- what the tally misses: nothing

-- each choice that is done and stands is counted (be: a word below it has two trees)
pub record All (st : StandingChoices) (be D : Done) (t : Tally) : Type 0 where
  pub seen : (A j k : ℕ) → D j k → st A j k → In t.seen A
  pub one : (A j k : ℕ) → D j k → st A j k → In t.one A
  pub apart : (A j k j' k' : ℕ) → D j k → D j' k' → st A j k → st A j' k' → (Same j k j' k' → ⊥)
      → In t.two A
  pub below : (A j k : ℕ) → D j k → st A j k → be j k → In t.two A

module _ (st : StandingChoices) (be : Done) where
  pub all_none : (t : Tally) (D : Done) → ((A j k : ℕ) → D j k → st A j k → ⊥) → All st be D t
  all_none t D non = record {
    seen = λ A j k d c. absurd (non A j k d c);
    one = λ A j k d c. absurd (non A j k d c);
    apart = λ A j k j' k' d d' c. absurd (non A j k d c);
    below = λ A j k d c. absurd (non A j k d c);
  }

  pub all_same : (D E : Done) (t : Tally) → ((A j k : ℕ) → E j k → st A j k → D j k) → All st be D t
      → All st be E t
  all_same D E t to h = record {
    seen = λ A j k d c. h.seen A j k (to A j k d c) c;
    one = λ A j k d c. h.one A j k (to A j k d c) c;
    apart = λ A j k j' k' d d' c c'. h.apart A j k j' k' (to A j k d c) (to A j' k' d' c') c c';
    below = λ A j k d c. h.below A j k (to A j k d c) c;
  }

  -- a pass is resumed with greater sets
  pub all_sets : (D : Done) (b t : Tally) → ((A : ℕ) → In b.one A → In t.one A)
      → ((A : ℕ) → In b.two A → In t.two A) → All st be D b
      → All st be D (record { seen = b.seen; one = t.one; two = t.two })
  all_sets D b t p q h = record {
    seen = h.seen;
    one = λ A j k d c. p A (h.one A j k d c);
    apart = λ A j k j' k' d d' c c' n. q A (h.apart A j k j' k' d d' c c' n);
    below = λ A j k d c b. q A (h.below A j k d c b);
  }

  -- the choice (i, l) is tried
  pub all_took : (D E : Done) (i l a : ℕ) {fits below : Type 0} (t u : Tally)
      → ((A j k : ℕ) → E j k → st A j k → D j k ⊎ ((j ≡ i) × (k ≡ l)))
      → ((A : ℕ) → E i l → st A i l → (A ≡ a) × fits) → (be i l → fits → below)
      → Took fits below a t u → All st be D t → All st be E u
  all_took D E i l a t u to is two (fell n e) h =
      subst (All st be E) (sym e)
      (all_same D E t (λ A j k d c. ⊎_elim (λ x. x)
      (λ x. absurd (n (is A (subst₂ E x.0 x.1 d)
      (subst₂ (λ (y z : ℕ). st A y z) x.0 x.1 c)).1)) (to A j k d c)) h)
  all_took D E i l a {fits} {below} t u to is two (stood again q w f) h = record {
    seen = λ A j k d c. ⊎_elim (λ x. keep t.seen u.seen f.seen A (h.seen A j k x c))
        (λ x. here t.seen u.seen f.seen A (mine A j k d c x)) (to A j k d c);
    one = λ A j k d c. ⊎_elim (λ x. keep t.one u.one f.one A (h.one A j k x c))
        (λ x. here t.one u.one f.one A (mine A j k d c x)) (to A j k d c);
    apart = λ A j k j' k' d d' c c' n.
        ⊎_elim (λ x. ⊎_elim (λ x'. keep_two A (h.apart A j k j' k' x x' c c' n))
        (λ e'. here_two A (mine A j' k' d' c' e') (inl (met A j k (mine A j' k' d' c' e') x c)))
        (to A j' k' d' c'))
        (λ e. ⊎_elim (λ x'. here_two A (mine A j k d c e)
        (inl (met A j' k' (mine A j k d c e) x' c')))
        (λ e'. absurd (n (e.0 ∙ sym e'.0, e.1 ∙ sym e'.1))) (to A j' k' d' c'))
        (to A j k d c);
    below = λ A j k d c x.
        ⊎_elim (λ y. keep_two A (h.below A j k y c x))
        (λ e. here_two A (mine A j k d c e) (inr (two (subst₂ be e.0 e.1 x) q)))
        (to A j k d c);
  }
    where
      mine : (A j k : ℕ) → E j k → st A j k → (j ≡ i) × (k ≡ l) → A ≡ a
      mine A j k d c e =
          (is A (subst₂ E e.0 e.1 d) (subst₂ (λ (y z : ℕ). st A y z) e.0 e.1 c)).0

      keep : (x y : ℕ) → y ≡ insert x a → (A : ℕ) → In x A → In y A
      keep x y e A m = subst (λ (z : ℕ). In z A) (sym e) (insert_keeps x a m)

      here : (x y : ℕ) → y ≡ insert x a → (A : ℕ) → A ≡ a → In y A
      here x y e A z = subst₂ In (sym e) (sym z) (insert_same x a)

      keep_two : (A : ℕ) → In t.two A → In u.two A
      keep_two A m = ⊎_elim (λ x. subst (λ (z : ℕ). In z A) (sym x.0)
          (insert_keeps t.two a m)) (λ x. subst (λ (z : ℕ). In z A) (sym x.0) m) f.two

      met : (A j k : ℕ) → A ≡ a → D j k → st A j k → In t.seen a
      met A j k e d c = subst (In t.seen) e (h.seen A j k d c)

      missed : again ≡ true → again ≡ false → ⊥
      missed e n = let z : true ≡ false = sym e ∙ n in
          absurd (let x : ◌≡◌ {A = ℕ} 1 0 = ap (λ (s : Bool). num s) z in omega arith)
        where
          num : Bool → ℕ
          num true = 1
          num false = 0

      says : below → again ≡ true
      says x = go again w
        where
          go : (y : Bool) → Says y below → y ≡ true
          go true z = refl
          go false z = absurd (z.isnt refl x)

      here_two : (A : ℕ) → A ≡ a → In t.seen a ⊎ below → In u.two A
      here_two A e why =
          ⊎_elim (λ x. subst₂ In (sym x.0) (sym e) (insert_same t.two a))
          (λ x. absurd (⊎_elim x.1 (λ z. missed (says z) x.2) why)) f.two

-- the same of a pass that began with the sets f and p, as long as they do not grow
pub record Still (st : StandingChoices) (be : Done) (f p : ℕ) (D : Done) (t : Tally) : Type 0 where
  pub one_grows : f ≤ t.one
  pub two_grows : p ≤ t.two
  pub all : t.one ≡ f → t.two ≡ p → All st be D t

module _ (st : StandingChoices) (be : Done) (f p : ℕ) where
  pub still_same : (D E : Done) (t : Tally) → ((A j k : ℕ) → E j k → st A j k → D j k)
      → Still st be f p D t → Still st be f p E t
  still_same D E t to h = record {
    one_grows = h.one_grows;
    two_grows = h.two_grows;
    all = λ x y.
        all_same st be D E t to (h.all x y);
  }

  pub still_took : (D E : Done) (i l a : ℕ) {fits below : Type 0} (t u : Tally)
      → ((A j k : ℕ) → E j k → st A j k → D j k ⊎ ((j ≡ i) × (k ≡ l)))
      → (t.one ≡ f → (A : ℕ) → E i l → st A i l → (A ≡ a) × fits)
      → (t.two ≡ p → be i l → fits → below)
      → Took fits below a t u → Still st be f p D t → Still st be f p E u
  still_took D E i l a t u to is two w h = record {
    one_grows = omega (arith, h.one_grows, took_one w);
    two_grows = omega (arith, h.two_grows, took_two w);
    all = λ x y.
        let z : t.one ≡ f = omega (arith, h.one_grows, took_one w) in
        let z' : t.two ≡ p = omega (arith, h.two_grows, took_two w) in
        all_took st be D E i l a t u to (is z) (two z') w (h.all z z');
  }
