-- An index that grows rule by rule, pass by pass, until it is true; and that the rules settle it.
use mathlib.Core.Path.{◌≡◌, refl, sym, ◌∙◌, ap, subst}
use mathlib.Core.Logic.{◌⊎◌, inl, inr, ⊎_elim, ◌↔◌}
use mathlib.Core.List.Memᴰ
use mathlib.Core.List.{List, [], ◌∷◌, ◌++◌, Memᴰ}
use mathlib.Core.Option.{some}
use Prim.Native.Nat.{ℕ, zero, suc, ◌+◌, ◌-◌, ◌*◌, ◌/◌, ◌%◌, ◌^◌, ◌≤◌, ◌<◌}
use native.Mathlib.Omega.{arith}
use native.Mathlib.Nat.{le_refl}
use native.Mathlib.Decide.{dec_lt, ℕ_discrete}
use native.Mathlib.Nat.{div-eq_of_lt}
use lib.Pow.{pow-lt}
use lib.Bits.{bit_or}
use lib.ListN.{length, get_or, get_elem?, set, replicate, length-set, get_or-replicate}
use lib.ListN.{get_or-eq_default}
use lib.Seq.{get_or-set_same, get_or-set_other, ext_get_or}
use Rattle.sets.specs.Sets.{In}
use Rattle.sets.specs.Insertion.{insert}
use Rattle.sets.proofs.Bits.{in_or}
use Rattle.sets.proofs.Sets.{in_zero, insert_same, insert_keeps}
use Rattle.grammar.specs.declared.Rule.{Rule}
use Rattle.grammar.specs.declared.Clause.{Clause}
use Rattle.grammar.specs.declared.UnaryMark.{UnaryMark}
use Rattle.grammar.specs.declared.BinaryMark.{BinaryMark}
use Rattle.grammar.specs.declared.Grammar.{Grammar}
use Rattle.grammar.specs.Layout.{Every}
use Rattle.grammar.specs.Trees.{Rules}
use Rattle.grammar.specs.Content.{rules_of, Formed, SmallClause, SmallRule}
use Rattle.grammar.proofs.Lists.{mem_every}
use Rattle.grammar.proofs.ChoiceLaws.{member_at, place_of}
use Rattle.grammar.proofs.ByKind.{get_elem?_lt}
use Rattle.lengths.specs.declared.Index.{Index}
use Rattle.lengths.specs.declared.Growth.{Growth}
use Rattle.lengths.specs.Indexes.{at, Shaped, Exact}
use Rattle.lengths.specs.Passes.{SumTo, Has, first_of, second_of, Makes, GivesByIndex, Applied}
use Rattle.lengths.specs.Passes.{Possible, by_empty, by_atom, by_unary, by_binary, Sound}
use Rattle.lengths.specs.Passes.{LengthsPassed, Idle, Held, Named, Open, Widens, weigh}
use Rattle.lengths.proofs.SmallSets.{or_left, or_right, or_only, or_ge, or_small, high_none}
use Rattle.lengths.proofs.SmallSets.{small_same}
use Rattle.lengths.proofs.Possibly.{can_possible, possible_can}

-- ---- two indexes with the same sets are the same

index_path : (x y : Index) → Shaped x → Shaped y → ((A : ℕ) → A < 64 → at x A ≡ at y A) → x ≡ y
index_path x y s t h =
    let e : x.sets ≡ y.sets = ext_get_or 0 x.sets y.sets (s.size ∙ sym t.size)
    (λ i l. h i (omega (arith, l, s.size))) in
    λ i. record { sets = e i }

-- an index is settled by its rules
pub exact_same : {g : Rules} {x y : Index} → Exact g x → Exact g y → x ≡ y
exact_same {g} {x} {y} e f =
    index_path x y e.shaped f.shaped
    (λ A l. small_same (at x A) (at y A) (e.shaped.small A) (f.shaped.small A)
    (λ n m. (
      λ h. (f.is A n l m).1 ((e.is A n l m).0 h),
      λ h. (e.is A n l m).1
          ((f.is A n l m).0 h),
    )))

-- no rules: no lengths
zero_at : (A : ℕ) → ◌≡◌ {A = ℕ} (get_or (replicate 64 0) A 0) 0
zero_at A = elim (dec_lt A 64) [
  | yes l ↦ get_or-replicate {A = ℕ} 64 A 0 0 l
  | no l ↦
      get_or-eq_default {A = ℕ} (replicate 64 0) 0 {n = A} (omega arith)
]

nothing : {A n : ℕ} → Possible [] A n → ⊥
nothing (by_empty m) = Memᴰ.not-nil m
nothing (by_atom a m) = Memᴰ.not-nil m.rule
nothing (by_unary B k m p) = Memᴰ.not-nil m
nothing (by_binary B C i j k m p q e) = Memᴰ.not-nil m

pub exact_none : Exact [] (record { sets = replicate 64 0 })
exact_none = record {
  shaped = record { size = refl; small = λ A. omega (arith, zero_at A) };
  is = λ A n l m. (
    λ h. absurd (in_zero n (rw (zero_at A) at h)),
    λ h. absurd
        (nothing (can_possible h)),
  );
}

-- ---- what a rule gives

module _ {g : Rules} {x : Index} (s : Sound g x) where
  gives_by : (A : ℕ) (c : Clause) → Memᴰ (record { left = A; clause = c }) g → (n : ℕ)
      → GivesByIndex x c n → Possible g A n
  gives_by A Clause.Empty m n h = rw h (by_empty m)
  gives_by A (Clause.Atom a b) m n h = rw h.0
      (by_atom a (record {
        low = a;
        high = b;
        rule = m;
        covers = record
            { low = le_refl a; high = h.1 };
      }))
  gives_by A (Clause.Unary B k) m n h = by_unary B k m (s.is B n h)
  gives_by A (Clause.Binary B C k) m n h = by_binary {n = n} B C h.part (n - h.part) k m
      (s.is B h.part h.left) (s.is C (n - h.part) h.right) (omega (arith, h.fits))

  pub applied_sound : {y : Index} {r : Rule} → Memᴰ r g → Applied x r y → Sound g y
  applied_sound {y} {r} m a = record {
    shaped = a.shaped;
    is = λ A n h. ⊎_elim (λ i. s.is A n i)
        (λ i. subst (λ (B : ℕ). Possible g B n) i.0 (gives_by r.left r.clause m n i.1))
        (a.only A n h);
  }

-- the index with a set in the place of the left's
pub applied_set : (x : Index) (r : Rule) (s : ℕ) → Shaped x → r.left < 64
    → Has (GivesByIndex x r.clause) s
    → Applied x r (record { sets = set x.sets r.left (bit_or (at x r.left) s) })
applied_set x r s sh l h = record {
  shaped = record { size = simp length-set sh.size; small = small };
  more = more;
  keeps = keeps;
  adds = adds;
  only = only;
}
  where
    y : ℕ → ℕ
    y A = get_or (set x.sets r.left (bit_or (at x r.left) s)) A 0

    same : get_or (set x.sets r.left (bit_or (at x r.left) s)) r.left 0
        ≡ bit_or (at x r.left) s
    same = get_or-set_same x.sets r.left (bit_or (at x r.left) s) 0 (omega (arith, sh.size))

    other : (A : ℕ) → (A ≡ r.left → ⊥)
        → get_or (set x.sets r.left (bit_or (at x r.left) s)) A 0 ≡ at x A
    other A n = get_or-set_other x.sets r.left A (bit_or (at x r.left) s) 0 n

    small : (A : ℕ) → get_or (set x.sets r.left (bit_or (at x r.left) s)) A 0 < 256
    small A = elim (ℕ_discrete A r.left) [
      | yes e ↦ rw (e, same) (or_small (at x r.left) s (sh.small r.left) h.small)
      | no n ↦ rw (other A n) (sh.small A)
    ]

    more : (A : ℕ) → at x A ≤ get_or (set x.sets r.left (bit_or (at x r.left) s)) A 0
    more A = elim (ℕ_discrete A r.left) [
      | yes e ↦ rw (e, same) (or_ge (at x r.left) s)
      | no n ↦ rw (other A n) (le_refl (at x A))
    ]

    keeps : (A n : ℕ) → In (at x A) n
        → In (get_or (set x.sets r.left (bit_or (at x r.left) s)) A 0) n
    keeps A n i = elim (ℕ_discrete A r.left) [
      | yes e ↦ rw (e, same) (or_left (at x r.left) s (rw e at i))
      | no m ↦ rw (other A m) i
    ]

    adds : (n : ℕ) → GivesByIndex x r.clause n
        → In (get_or (set x.sets r.left (bit_or (at x r.left) s)) r.left 0) n
    adds n i = rw same (or_right (at x r.left) s ((h.is n).1 i))

    only : (A n : ℕ) → In (get_or (set x.sets r.left (bit_or (at x r.left) s)) A 0) n
        → In (at x A) n ⊎ ((r.left ≡ A) × GivesByIndex x r.clause n)
    only A n i = elim (ℕ_discrete A r.left) [
      | yes e ↦ ⊎_elim (λ j. inl (rw e j)) (λ j. inr (sym e, (h.is n).0 j))
          (or_only (at x r.left) s n (rw (e, same) at i))
      | no m ↦ inl (rw (other A m) at i)
    ]

-- ---- the weight

weigh_mono : (l k : List ℕ) → length l ≡ length k → ((i : ℕ) → get_or l i 0 ≤ get_or k i 0)
    → weigh l ≤ weigh k
weigh_mono [] [] e h = omega arith
weigh_mono [] (b ∷ k) e h = absurd (omega arith)
weigh_mono (a ∷ l) [] e h = absurd (omega arith)
weigh_mono (a ∷ l) (b ∷ k) e h = omega (arith, h 0, weigh_mono l k (omega arith) (λ i. h (suc i)))

weigh_same : (l k : List ℕ) → length l ≡ length k → ((i : ℕ) → get_or l i 0 ≤ get_or k i 0)
    → weigh k ≤ weigh l → l ≡ k
weigh_same [] [] e h w = refl
weigh_same [] (b ∷ k) e h w = absurd (omega arith)
weigh_same (a ∷ l) [] e h w = absurd (omega arith)
weigh_same (a ∷ l) (b ∷ k) e h w =
    let m : weigh l ≤ weigh k = weigh_mono l k (omega arith) (λ i. h (suc i)) in
    let z = h 0 in
    let q : a ≡ b = omega (arith, m, w, z) in
    let r : l ≡ k = weigh_same l k (omega arith) (λ i. h (suc i)) (omega (arith, w, z)) in
    λ i. q i ∷ r i

-- where a set is larger, the index is heavier
weigh_more : (x y : Index) → Shaped x → Shaped y → ((A : ℕ) → at x A ≤ at y A) → (A : ℕ)
    → at x A < at y A → weigh x.sets < weigh y.sets
weigh_more x y s t h A l = elim (dec_lt (weigh x.sets) (weigh y.sets)) [
  | yes k ↦ k
  | no k ↦
      let e = weigh_same x.sets y.sets (s.size ∙ sym t.size) h (omega (arith, k)) in
      absurd (omega (arith, l, ap (λ (z : List ℕ). get_or z A 0) e))
]

-- a rule that gives nothing leaves all as it is
pub widens_idle : (w : Growth) (r : Rule) (s : ℕ) → Shaped w.index
    → Has (GivesByIndex w.index r.clause) s
    → bit_or (at w.index r.left) s ≡ at w.index r.left → Widens w r w
widens_idle w r s sh h e = record {
  applied = record {
    shaped = sh;
    more = λ A. le_refl (at w.index A);
    keeps = λ A n i. i;
    adds = λ n i. rw e at (or_right (at w.index r.left) s ((h.is n).1 i));
    only = λ A n i. inl i;
  };
  kept = λ A i. i;
  same = λ A n. refl;
  heavier = inl refl;
}

-- one that gives something makes its left's set grow
pub widens_set : (w : Growth) (r : Rule) (s u : ℕ) → Shaped w.index → r.left < 64
    → Has (GivesByIndex w.index r.clause) s
    → (bit_or (at w.index r.left) s ≡ at w.index r.left → ⊥)
    → u ≡ insert w.grown r.left
    → Widens w r (record {
      index = record {
        sets = set w.index.sets r.left (bit_or (at w.index r.left) s);
      };
      grown = u;
    })
widens_set w r s u sh l h n e = record {
  applied = a;
  kept = λ A i. rw e (insert_keeps w.grown r.left i);
  same = λ A m. get_or-set_other w.index.sets r.left A o 0
      (λ d. m (rw (e, d) (insert_same w.grown r.left)));
  heavier = inr (weigh_more w.index y sh a.shaped a.more r.left (omega (
    arith,
    or_ge (at w.index r.left) s,
    n,
    get_or-set_same w.index.sets r.left o 0 (omega (arith, sh.size)),
  )));
}
  where
    o : ℕ
    o = bit_or (at w.index r.left) s

    y : Index
    y = record { sets = set w.index.sets r.left (bit_or (at w.index r.left) s) }

    a : Applied w.index r (record {
      sets = set w.index.sets r.left (bit_or (at w.index r.left) s);
    })
    a = applied_set w.index r s sh l h

-- ---- what is named

-- a clause gives to y what it gives to x, where what it names has in y all that it has in x
gives_on : (x y : Index) (k : Clause) (n : ℕ)
    → ((m : ℕ) → In (at x (first_of k)) m → In (at y (first_of k)) m)
    → ((m : ℕ) → In (at x (second_of k)) m → In (at y (second_of k)) m) → GivesByIndex x k n
    → GivesByIndex y k n
gives_on x y Clause.Empty n f s h = h
gives_on x y (Clause.Atom a b) n f s h = h
gives_on x y (Clause.Unary B m) n f s h = f n h
gives_on x y (Clause.Binary B C m) n f s h = record {
  part = h.part;
  below = h.below;
  left = f h.part h.left;
  fits = h.fits;
  right = s (n - h.part) h.right;
  small = h.small;
}

-- one that names nothing that has grown gives what it gave
gives_back : (x y : Index) {grown : ℕ} → ((A : ℕ) → (In grown A → ⊥) → at y A ≡ at x A)
    → (k : Clause) → (Named grown k → ⊥) → (n : ℕ) → GivesByIndex y k n → GivesByIndex x k n
gives_back x y same k none n = gives_on y x k n
    (λ m. subst (λ (s : ℕ). In s m) (same (first_of k) (λ i. none (inl i))))
    (λ m. subst (λ (s : ℕ). In s m) (same (second_of k) (λ i. none (inr i))))

-- what names a member of a set names one of a larger set
pub named_more : (s t : ℕ) (k : Clause) → Named s k → Named (bit_or s t) k
named_more s t k = ⊎_elim (λ i. inl ((in_or s t (first_of k)).1 (inl i)))
    (λ i. inr ((in_or s t (second_of k)).1 (inl i)))

-- ---- passes

module _ {g : Rules} where
  pub passed_none : {x : Index} → Sound g x → LengthsPassed g 0 x x 0
  passed_none {x} s = record {
    sound = s;
    more = λ A. le_refl (at x A);
    keeps = λ A n i. i;
    gave = λ q l. absurd (omega arith);
    same = λ A n. refl;
    heavier = λ n. absurd (n refl);
  }

  -- a rule that gives x nothing
  pub passed_idle : {p : ℕ} {x y : Index} {grown : ℕ} (r : Rule) → get_elem? g p ≡ some r → Idle x r
      → LengthsPassed g p x y grown → LengthsPassed g (p + 1) x y grown
  passed_idle {p} {x} {y} {grown} r st i w = record {
    sound = w.sound;
    more = w.more;
    keeps = w.keeps;
    gave = gave;
    same = w.same;
    heavier = w.heavier;
  }
    where
      gave : (q : ℕ) → q < p + 1 → (r' : Rule) → get_elem? g q ≡ some r' → (n : ℕ)
          → GivesByIndex x r'.clause n → In (at y r'.left) n
      gave q l r' st' n h = go (ℕ_discrete q p)
        where
          go : Dec (q ≡ p) → In (at y r'.left) n
          go (yes j) =
              let k : get_elem? g p ≡ some r' = rw j at st' in
              let b : r ≡ r' = cc in
              w.keeps r'.left n ((subst (Idle x) b i).has n h)
          go (no j) = w.gave q (omega arith) r' st' n h

  -- one that is applied
  pub passed_more : {p : ℕ} {x : Index} {w u : Growth} (r : Rule) → Shaped x
      → get_elem? g p ≡ some r → LengthsPassed g p x w.index w.grown → Widens w r u
      → LengthsPassed g (p + 1) x u.index u.grown
  passed_more {p} {x} {w} {u} r sx st v a = record {
    sound = applied_sound v.sound (member_at g p st) a.applied;
    more = λ A. omega (arith, v.more A, a.applied.more A);
    keeps = λ A n i. a.applied.keeps A n (v.keeps A n i);
    gave = gave;
    same = λ A n. a.same A n ∙ v.same A (λ i. n (a.kept A i));
    heavier = λ n. ⊎_elim (λ e. omega (arith, v.heavier (λ z. n (e ∙ z)), after))
        (λ l. omega (arith, l, before)) a.heavier;
  }
    where
      before : weigh x.sets ≤ weigh w.index.sets
      before = weigh_mono x.sets w.index.sets (sx.size ∙ sym v.sound.shaped.size)
          v.more

      after : weigh w.index.sets ≤ weigh u.index.sets
      after = weigh_mono w.index.sets u.index.sets
          (v.sound.shaped.size ∙ sym a.applied.shaped.size) a.applied.more

      here : (n : ℕ) → GivesByIndex x r.clause n → In (at u.index r.left) n
      here n i = a.applied.adds n
          (gives_on x w.index r.clause n (v.keeps (first_of r.clause))
          (v.keeps (second_of r.clause)) i)

      gave : (q : ℕ) → q < p + 1 → (r' : Rule) → get_elem? g q ≡ some r' → (n : ℕ)
          → GivesByIndex x r'.clause n → In (at u.index r'.left) n
      gave q l r' st' n h = go (ℕ_discrete q p)
        where
          go : Dec (q ≡ p) → In (at u.index r'.left) n
          go (yes j) =
              let k : get_elem? g p ≡ some r' = rw j at st' in
              let b : r ≡ r' = cc in
              subst (λ (z : Rule). GivesByIndex x z.clause n
              → In (at u.index z.left) n) b (here n) h
          go (no j) = a.applied.keeps r'.left n (v.gave q (omega arith) r' st' n h)

-- rules that name nothing that a pass made grow give nothing after it
pub passed_open : {g : Grammar} {x y : Index} {grown : ℕ} → Held g
    → LengthsPassed (rules_of g) g.count x y grown → Open (rules_of g) y grown
passed_open {g} {x} {y} h w = record {
  idle = λ r m none. record {
    has = λ n i. let p = place_of m in
        w.gave p.0 (omega (arith, get_elem?_lt (rules_of g) p.0 p.1, h.whole)) r p.1 n
        (gives_back x y w.same r.clause none n i);
  };
}

-- ---- an index to which no rule gives anything has all

module _ {g : Rules} (x : Index)
    (shut : (r : Rule) → Memᴰ r g → (n : ℕ) → GivesByIndex x r.clause n
    → In (at x r.left) n) where
  complete : {A n : ℕ} → Possible g A n → n < 8 → In (at x A) n
  complete (by_empty m) l = shut _ m 0 refl
  complete (by_atom a m) l =
      shut _ m.rule 1 (refl, omega (arith, m.covers.low, m.covers.high))
  complete (by_unary B k m p) l = shut _ m _ (complete p l)
  complete (by_binary {n = n} B C i j k m p q e) l =
      let d : n - i ≡ j = omega arith in
      shut _ m n (record {
        part = i;
        below = omega arith;
        left = complete p (omega arith);
        fits =
            omega arith;
        right = rw d (complete q (omega arith));
        small = l;
      })

  pub shut_exact : Sound g x → Exact g x
  shut_exact s = record {
    shaped = s.shaped;
    is = λ A n l m.
        (λ h. possible_can (s.is A n h), λ h. complete (can_possible h) m);
  }

-- where nothing is open, the index is true
pub open_exact : {g : Rules} {x : Index} → Sound g x → Open g x 0 → Exact g x
open_exact {g} {x} s o = shut_exact x (λ r m n i. (o.idle r m
    (λ k. ⊎_elim (in_zero (first_of r.clause)) (in_zero (second_of r.clause)) k)).has n i) s

weigh_le : (l : List ℕ) → ((i : ℕ) → get_or l i 0 < 256) → weigh l ≤ length l * 256
weigh_le [] h = omega arith
weigh_le (a ∷ l) h = omega (arith, h 0, weigh_le l (λ i. h (suc i)))

pub weight_small : (x : Index) → Shaped x → weigh x.sets ≤ 16384
weight_small x s = omega (arith, weigh_le x.sets s.small, s.size)

-- ---- what a clause gives

one_digit : (n : ℕ) → In 1 n ↔ (n ≡ 0)
one_digit n = (λ h. only n h (high_none 1 n (omega arith) h), λ e. rw e (record { digit = refl }))
  where
    only : (n : ℕ) → In 1 n → n < 8 → n ≡ 0
    only zero h l = refl
    only (suc n) h l = absurd (let z : 1 / 2 ^ suc n ≡ 0 = div-eq_of_lt
        (pow-lt {i = 0} {j = suc n} (omega arith)) in
        omega (arith, h.digit, ap (λ (x : ℕ). x % 2) z))

two_digit : (n : ℕ) → In 2 n ↔ (n ≡ 1)
two_digit n = (λ h. only n h, λ e. rw e (record { digit = refl }))
  where
    only : (n : ℕ) → In 2 n → n ≡ 1
    only zero h = absurd (let z : ◌≡◌ {A = ℕ} 0 1 = h.digit in omega (arith, z))
    only (suc zero) h = refl
    only (suc (suc n)) h = absurd (let z : 2 / 2 ^ suc (suc n)
        ≡ 0 = div-eq_of_lt (pow-lt {i = 1} {j = suc (suc n)} (omega arith)) in
        omega (arith, h.digit, ap (λ (x : ℕ). x % 2) z))

module _ (s t : ℕ) where
  -- the clause that a match found
  makes_at : {k l : Clause} (r : ℕ) → k ≡ l → Has (Makes s t l) r → Has (Makes s t k) r
  makes_at {k} {l} r e h = subst (λ (c : Clause). Has (Makes s t c) r) (sym e) h

  pub makes_empty : {k : Clause} → k ≡ Clause.Empty → Has (Makes s t k) 1
  makes_empty e = makes_at 1 e (record { small = omega arith; is = one_digit })

  pub makes_atom : {k : Clause} {a b : ℕ} → k ≡ Clause.Atom a b → a ≤ b → Has (Makes s t k) 2
  makes_atom e h = makes_at 2 e (record
      { small = omega arith; is = λ n. (λ x. ((two_digit n).0 x, h), λ x. (two_digit n).1 x.0) })

  -- a range of no terminals
  pub makes_none : {k : Clause} {a b : ℕ} → k ≡ Clause.Atom a b → b < a → Has (Makes s t k) 0
  makes_none e h = makes_at 0 e (record {
    small = omega arith;
    is =
        λ n. (λ x. absurd (in_zero n x), λ x. absurd (omega (arith, h, x.1)));
  })

  pub makes_unary : {k : Clause} {B : ℕ} {m : UnaryMark} → k ≡ Clause.Unary B m → s < 256
      → Has (Makes s t k) s
  makes_unary e h = makes_at s e (record { small = h; is = λ n. (λ x. x, λ x. x) })

  pub makes_binary : {k : Clause} {B C r : ℕ} {m : BinaryMark} → k ≡ Clause.Binary B C m
      → Has (SumTo s t 8) r → Has (Makes s t k) r
  makes_binary {r = r} e h = makes_at r e h

-- what the index has for a clause's nonterminals
pub makes_gives : (x : Index) (k : Clause) (b c r : ℕ) → b ≡ first_of k → c ≡ second_of k
    → Has (Makes (at x b) (at x c) k) r → Has (GivesByIndex x k) r
makes_gives x k b c r e d h = go k (rw (e, d) at h)
  where
    go : (k : Clause) → Has (Makes (at x (first_of k)) (at x (second_of k)) k) r
        → Has (GivesByIndex x k) r
    go Clause.Empty h = h
    go (Clause.Atom a b) h = h
    go (Clause.Unary B m) h = h
    go (Clause.Binary B C m) h = h

pub first_small : (k : Clause) → SmallClause k → first_of k < 64
first_small Clause.Empty h = omega arith
first_small (Clause.Atom a b) h = omega arith
first_small (Clause.Unary B m) h = h
first_small (Clause.Binary B C m) h = h.0

pub second_small : (k : Clause) → SmallClause k → second_of k < 64
second_small Clause.Empty h = omega arith
second_small (Clause.Atom a b) h = omega arith
second_small (Clause.Unary B m) h = omega arith
second_small (Clause.Binary B C m) h = h.1

-- ---- one rule more

possible_more : {g : Rules} (r : Rule) {A n : ℕ} → Possible g A n → Possible (g ++ (r ∷ [])) A n
possible_more r (by_empty m) = by_empty (Memᴰ.append_left (r ∷ []) m)
possible_more r (by_atom a m) = by_atom a
    (record {
      low = m.low;
      high = m.high;
      rule = Memᴰ.append_left (r ∷ []) m.rule;
      covers =
          m.covers;
    })
possible_more r (by_unary B k m p) = by_unary B k (Memᴰ.append_left (r ∷ []) m) (possible_more r p)
possible_more r (by_binary B C i j k m p q e) =
    by_binary B C i j k (Memᴰ.append_left (r ∷ []) m) (possible_more r p) (possible_more r q) e

past : (x : Index) (A : ℕ) → Shaped x → 64 ≤ A → at x A ≡ 0
past x A s l = get_or-eq_default x.sets 0 {n = A} (omega (arith, s.size))

-- all that a true index has is possible
exact_sound : {g : Rules} {x : Index} → Exact g x → Sound g x
exact_sound {g} {x} e = record { shaped = e.shaped; is = λ A n h. go A n h (dec_lt A 64) }
  where
    go : (A n : ℕ) → In (at x A) n → Dec (A < 64) → Possible g A n
    go A n h (yes l) = can_possible ((e.is A n l (high_none (at x A) n (e.shaped.small A) h)).0 h)
    go A n h (no l) = absurd (in_zero n (rw (past x A e.shaped (omega (arith, l))) at h))

-- the index of no rules has nothing, so all of it is possible
pub sound_none : {g : Rules} {x : Index} → Exact [] x → Sound g x
sound_none e = let s = exact_sound e in
    record { shaped = e.shaped; is = λ A n h. absurd (nothing (s.is A n h)) }

pub held_formed : {g : Grammar} → Formed g → Held g
held_formed f = record { few = f.few; whole = f.whole; small = f.small }

-- the index of the rules so far is true as far as it goes of one rule more
pub sound_more : {g : Rules} {x : Index} (r : Rule) → Exact g x → Sound (g ++ (r ∷ [])) x
sound_more {g} {x} r e = let s = exact_sound e in
    record { shaped = e.shaped; is = λ A n h. possible_more r (s.is A n h) }

-- a clause gives lengths below 8
gives_small : (x : Index) → Shaped x → (k : Clause) (n : ℕ) → GivesByIndex x k n → n < 8
gives_small x s Clause.Empty n h = omega (arith, h)
gives_small x s (Clause.Atom a b) n h = omega (arith, h.0)
gives_small x s (Clause.Unary B m) n h = high_none (at x B) n (s.small B) h
gives_small x s (Clause.Binary B C m) n h = h.small

-- a true index has all that the rules give it
exact_idle : {g : Rules} {x : Index} {r : Rule} → Every SmallRule g → Exact g x → Memᴰ r g
    → Idle x r
exact_idle {g} {x} {r} k e m = record {
  has = λ n h. (e.is r.left n (mem_every SmallRule g k m).left
      (gives_small x e.shaped r.clause n h)).1
      (possible_can (gives_by (exact_sound e) r.left r.clause m n h));
}

-- with one rule more and what it gives, rules that name nothing that has grown give nothing
pub open_more : {g : Rules} {w u : Growth} (r : Rule) → Every SmallRule g → Exact g w.index
    → Widens w r u → Open (g ++ (r ∷ [])) u.index u.grown
open_more {g} {w} {u} r k e a = record {
  idle = λ q m none. record {
    has = λ n i.
        let j = gives_back w.index u.index a.same q.clause none n i in
        ⊎_elim (λ y. a.applied.keeps q.left n ((exact_idle k e y).has n j))
        (λ y. last q (Memᴰ.eq_of_singleton y) n j) (Memᴰ.append_cases g m);
  };
}
  where
    last : (q : Rule) → q ≡ r → (n : ℕ) → GivesByIndex w.index q.clause n
        → In (at u.index q.left) n
    last q d n = subst (λ (z : Rule). GivesByIndex w.index z.clause n
        → In (at u.index z.left) n) (sym d) (a.applied.adds n)

pub sound_widened : {g : Rules} {w u : Growth} (r : Rule) → Exact g w.index → Widens w r u
    → Sound (g ++ (r ∷ [])) u.index
sound_widened {g} r e a =
    applied_sound (sound_more r e) (Memᴰ.append_right g (Memᴰ.head refl)) a.applied

-- of no lengths E and A rules alone give something
pub open_none : {g : Rules} {x : Index} → Exact [] x → Open g x 1
open_none {g} {x} e = record {
  idle = λ r m none. record { has = λ n i. absurd (go r.clause none n i) };
}
  where
    one : In 1 0
    one = record { digit = refl }

    go : (k : Clause) → (Named 1 k → ⊥) → (n : ℕ) → GivesByIndex x k n → ⊥
    go Clause.Empty none n i = none (inl one)
    go (Clause.Atom a b) none n i = none (inl one)
    go (Clause.Unary B m) none n i = nothing ((exact_sound e).is B n i)
    go (Clause.Binary B C m) none n i = nothing ((exact_sound e).is B i.part i.left)

-- ---- numbers in range

pub small_here : {g : Grammar} → Held g → (p : ℕ) {r : Rule} → get_elem? (rules_of g) p ≡ some r
    → SmallRule r
small_here {g} h p st = mem_every SmallRule (rules_of g) h.small (member_at (rules_of g) p st)
