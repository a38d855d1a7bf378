-- Links counted one after the other, for all nonterminals at once.
use mathlib.Core.Path.{◌≡◌, refl, sym, ◌∙◌, subst, subst₂}
use mathlib.Core.Bool.{Bool, true, false}
use mathlib.Core.List.{List}
use mathlib.Core.Logic.{◌⊎◌, inl, inr, ⊎_elim, ◌↔◌}
use Prim.Native.Nat.{ℕ, zero, suc, ◌+◌, ◌<◌}
use native.Mathlib.Omega.{arith}
use native.Mathlib.Decide.{ℕ_discrete}
use lib.ListN.{length, get_or}
use Rattle.sets.specs.Says.{Says}
use Rattle.sets.specs.Sets.{In}
use Rattle.sets.proofs.Sets.{in_zero}
use Rattle.grammar.specs.declared.Clause.{Clause}
use Rattle.grammar.specs.declared.UnaryMark.{UnaryMark}
use Rattle.grammar.specs.Trees.{Rules}
use Rattle.tables.specs.Tables.{rule}
use Rattle.cuts.specs.declared.Pair.{Pair}
use Rattle.cuts.specs.Joining.{Joins}
use Rattle.cuts.proofs.JoinLaws.{joins_none, joins_as}
use Rattle.chains.specs.SpanLinks.{Over, Beside, LinkAt}
use Rattle.chains.specs.Reaching.{Has, Selves, Met, LinkCounted, RuleCounted, LinkStep, Forks}
use Rattle.chains.specs.Reaching.{fork_self, fork_both, fork_beside, Branching, Branches}

-- ---- one link

pub count_none : {fits doubled : Type 0} (base : List ℕ) (a b : ℕ) (s t : List ℕ) → (fits → ⊥)
    → LinkCounted fits doubled base a b s s t t
count_none base a b s t n = record {
  adds = joins_as (λ q B x. absurd x) (λ q B x. n x.0) (joins_none s);
  doubles = joins_as (λ q B x. absurd x) (λ q B x. n x.0) (joins_none t);
}

pub count_one : {when again : Bool} (base : List ℕ) (a b m : ℕ) {s s' t t' : List ℕ} → when ≡ true
    → Met (get_or base b 0) (get_or s a 0) again m
    → Joins (λ q B. (q ≡ a) × In m B) t t' → Joins (λ q B. (q ≡ a) × In (get_or base b 0) B) s s'
    → LinkCounted (when ≡ true) (again ≡ true) base a b s s' t t'
count_one base a b m {s} w d t u = record {
  adds = joins_as (λ q B x. (w, x.0, x.1)) (λ q B x. (x.1, x.2)) u;
  doubles = joins_as (λ q B x. let y = (d.members B).0 x.1 in
      (w, x.0, y.0, ⊎_elim (λ z. inl (subst (λ (p : ℕ). Has s p B) (sym x.0) z)) inr y.1))
      (λ q B x. (
        x.1,
        (d.members B).1
            (x.2, ⊎_elim (λ z. inl (subst (λ (p : ℕ). Has s p B) x.1 z)) inr x.3),
      )) t;
}

-- what the flags say
pub count_says : {when again : Bool} {fits doubled : Type 0} {base : List ℕ} {a b : ℕ}
    {s s' t t' : List ℕ} → when ≡ true ↔ fits → again ≡ true ↔ doubled
    → LinkCounted (when ≡ true) (again ≡ true) base a b s s' t t'
    → LinkCounted fits doubled base a b s s' t t'
count_says f d c = record {
  adds = joins_as (λ q B x. (f.0 x.0, x.1, x.2)) (λ q B x. (f.1 x.0, x.1, x.2))
      c.adds;
  doubles = joins_as (λ q B x. (f.0 x.0, x.1, x.2, ⊎_elim inl (λ z. inr (d.0 z)) x.3))
      (λ q B x. (f.1 x.0, x.1, x.2, ⊎_elim inl (λ z. inr (d.1 z)) x.3)) c.doubles;
}

pub says_true : {b : Bool} {P : Type 0} → Says b P → b ≡ true ↔ P
says_true {b} {P} s = (s.is, λ p. go b refl p)
  where
    go : (c : Bool) → b ≡ c → P → b ≡ true
    go true e p = e
    go false e p = absurd (s.isnt e p)

-- ---- choice by choice

module _ (g : Rules) (holds : UnaryMark → Type 0) (e : Pair) (base : List ℕ) where
  abbrev Steps : (ℕ → ℕ → Type 0) → ℕ → ℕ → Type 0
  Steps D A B = LinkStep g holds e.one base D A B

  abbrev Link : ℕ → ℕ → ℕ → ℕ → Type 0
  Link A i l C = LinkAt g holds e.one A i l C

  abbrev step_done : {D D' : ℕ → ℕ → Type 0} {A B : ℕ} (x : Steps D A B) → D' x.index x.side
      → Steps D' A B
  step_done x d = record {
    index = x.index;
    side = x.side;
    over = x.over;
    done = d;
    link = x.link;
    has = x.has;
  }

  module _ (D D' : ℕ → ℕ → Type 0) (grow : (j m : ℕ) → D j m → D' j m) where
    abbrev step_more : {A B : ℕ} → Steps D A B → Steps D' A B
    step_more x = step_done x (grow x.index x.side x.done)

    forks_more : {A B : ℕ} → Forks g holds e base D A B → Forks g holds e base D' A B
    forks_more (fork_self z x) = fork_self z (step_more x)
    forks_more (fork_both x y n) = fork_both (step_more x) (step_more y) n
    forks_more (fork_beside x b) = fork_beside (step_more x) b

  -- no link is among the new choices
  branching_same : (D D' : ℕ → ℕ → Type 0) → ((j m : ℕ) → D j m → D' j m)
      → ((A j m C : ℕ) → D' j m → Link A j m C → D j m) → {s t : List ℕ}
      → Branching g holds e base D s t → Branching g holds e base D' s t
  branching_same D D' grow back {s} {t} b = record {
    wide = b.wide;
    wide₂ = b.wide₂;
    one = λ A B h. (
      λ x. ⊎_elim inl (λ y. inr (step_more D D' grow y)) ((b.one A B h).0 x),
      λ x. (b.one A B h).1 (⊎_elim inl (λ y. inr (step_done y (old y))) x),
    );
    two = λ A B h. (λ x. forks_more D D' grow ((b.two A B h).0 x), λ x. (b.two A B h).1 (olds x));
  }
    where
      old : {A B : ℕ} (x : Steps D' A B) → D x.index x.side
      old {A} x = back A x.index x.side x.over x.done x.link

      olds : {A B : ℕ} → Forks g holds e base D' A B → Forks g holds e base D A B
      olds (fork_self z x) = fork_self z (step_done x (old x))
      olds (fork_both x y n) = fork_both (step_done x (old x)) (step_done y (old y)) n
      olds (fork_beside x b) = fork_beside (step_done x (old x)) b

  -- the choice (i, l) is new: a link of a over b, if it is one
  module _ (D D' : ℕ → ℕ → Type 0) (i l a b : ℕ) (fits doubled : Type 0) (new : D i l → ⊥)
      (grow : (j m : ℕ) → D j m → D' j m)
      (last : (A j m C : ℕ) → D' j m → Link A j m C → D j m ⊎ ((j ≡ i) × (m ≡ l)))
      (link : fits → D' i l × Link a i l b)
      (unlink : (A C : ℕ) → Link A i l C → (A ≡ a) × (C ≡ b) × fits)
      (to : fits → doubled → Beside e.two (rule g i).clause l)
      (back : Beside e.two (rule g i).clause l → doubled) where
    abbrev mine : {A B : ℕ} → fits → A ≡ a → Has base b B → Steps D' A B
    mine f z h = record {
      index = i;
      side = l;
      over = b;
      done = (link f).0;
      link = subst
          (λ (x : ℕ). Link x i l b) (sym z) (link f).1;
      has = h;
    }

    abbrev Mine : {A B : ℕ} → Steps D' A B → Type 0
    Mine {A} {B} x = (x.index ≡ i) × (x.side ≡ l) × fits × (A ≡ a) × Has base b B

    parted : {A B : ℕ} (x : Steps D' A B) → D x.index x.side ⊎ Mine x
    parted {A} {B} x = ⊎_elim inl at (last A x.index x.side x.over x.done x.link)
      where
        at : (x.index ≡ i) × (x.side ≡ l) → D x.index x.side ⊎ Mine x
        at z =
            let u = unlink A x.over (subst₂ (λ (p q : ℕ). Link A p q x.over) z.0 z.1
            x.link) in
            inr (z.0, z.1, u.2, u.0, subst (λ (y : ℕ). Has base y B) u.1 x.has)

    module _ {s s' t t' : List ℕ} (c : LinkCounted fits doubled base a b s s' t t')
        (br : Branching g holds e base D s t) where
      one_to : (A B : ℕ) → A < 64 → Has s' A B → (A ≡ B) ⊎ Steps D' A B
      one_to A B h x = ⊎_elim (λ y. ⊎_elim inl (λ z. inr (step_more D D' grow z))
          ((br.one A B h).0 y)) (λ y. inr (mine y.0 y.1 y.2)) (c.adds.only A B x)

      one_of : (A B : ℕ) → A < 64 → (A ≡ B) ⊎ Steps D' A B → Has s' A B
      one_of A B h (inl z) = c.adds.keeps A B ((br.one A B h).1 (inl z))
      one_of A B h (inr x) = ⊎_elim (λ d. c.adds.keeps A B
          ((br.one A B h).1 (inr (step_done x d)))) (λ y. c.adds.all A B (y.2, y.3, y.4))
          (parted x)

      two_to : (A B : ℕ) → A < 64 → Has t' A B → Forks g holds e base D' A B
      two_to A B h x = ⊎_elim (λ y. forks_more D D' grow ((br.two A B h).0 y))
          (λ y. go y.0 y.1 y.2 y.3) (c.doubles.only A B x)
        where
          go : fits → A ≡ a → Has base b B → Has s A B ⊎ doubled → Forks g holds e base D' A B
          go f z r (inl q) =
              ⊎_elim (λ v. fork_self v (mine f z r))
              (λ v. fork_both (step_more D D' grow v) (mine f z r)
              (λ k. new (subst₂ D k.0 k.1 v.done))) ((br.one A B h).0 q)
          go f z r (inr d) = fork_beside (mine f z r) (to f d)

      again : (A B : ℕ) → A < 64 → (x : Steps D' A B) → Mine x → (A ≡ B) ⊎ Steps D A B → Has t' A B
      again A B h x y o = c.doubles.all A B (y.2, y.3, y.4, inl ((br.one A B h).1 o))

      two_of : (A B : ℕ) → A < 64 → Forks g holds e base D' A B → Has t' A B
      two_of A B h (fork_self z x) = ⊎_elim
          (λ d. c.doubles.keeps A B ((br.two A B h).1 (fork_self z (step_done x d))))
          (λ y. again A B h x y (inl z)) (parted x)
      two_of A B h (fork_both x y n) = go (parted x) (parted y)
        where
          go : D x.index x.side ⊎ Mine x → D y.index y.side ⊎ Mine y → Has t' A B
          go (inl p) (inl q) =
              c.doubles.keeps A B ((br.two A B h).1 (fork_both (step_done x p) (step_done y q) n))
          go (inl p) (inr q) = again A B h y q (inr (step_done x p))
          go (inr p) (inl q) = again A B h x p (inr (step_done y q))
          go (inr p) (inr q) = absurd (n (p.0 ∙ sym q.0, p.1 ∙ sym q.1))
      two_of A B h (fork_beside x k) =
          ⊎_elim (λ d. c.doubles.keeps A B ((br.two A B h).1 (fork_beside (step_done x d) k)))
          (λ y. c.doubles.all A B (
            y.2,
            y.3,
            y.4,
            inr
                (back (subst₂ (λ (p q : ℕ). Beside e.two (rule g p).clause q) y.0 y.1 k)),
          ))
          (parted x)

      branching_more : Branching g holds e base D' s' t'
      branching_more = record {
        wide = c.adds.long ∙ br.wide;
        wide₂ = c.doubles.long ∙ br.wide₂;
        one = λ A B h. (one_to A B h, one_of A B h);
        two = λ A B h. (two_to A B h, two_of A B h);
      }

  -- ---- rule by rule

  abbrev Upto : ℕ → ℕ → ℕ → Type 0
  Upto m i l = i < m

  abbrev Half : ℕ → ℕ → ℕ → Type 0
  Half m i l = (i < m) ⊎ ((i ≡ m) × (l ≡ 0))

  near : (i j : ℕ) → j < i + 1 → (j < i) ⊎ (j ≡ i)
  near i j h = go (ℕ_discrete j i)
    where
      go : Dec (j ≡ i) → (j < i) ⊎ (j ≡ i)
      go (yes z) = inr z
      go (no z) = inl (omega arith)

  module _ (i : ℕ) (h : i < length g) where
    -- a link of rule i, by its clause
    at : (c : Clause) → (rule g i).clause ≡ c → (A j m C : ℕ) → j ≡ i → Link A j m C
        → Over holds e.one c m C
    at c z A j m C q x = subst (λ (d : Clause). Over holds e.one d m C) z
        (subst (λ (p : ℕ). Over holds e.one (rule g p).clause m C) q x.over)

    linked : (c : Clause) → (rule g i).clause ≡ c → (l C : ℕ) → Over holds e.one c l C
        → Link (rule g i).left i l C
    linked c z l C o = record {
      within = h;
      left = refl;
      over = subst
          (λ (d : Clause). Over holds e.one d l C) (sym z) o;
    }

    no_link : (c : Clause) → (rule g i).clause ≡ c → ((l C : ℕ) → Over holds e.one c l C → ⊥)
        → {s t : List ℕ} → Branching g holds e base (Upto i) s t
        → Branching g holds e base (Upto (i + 1)) s t
    no_link c z n = branching_same (Upto i) (Upto (i + 1)) (λ j m d. omega arith)
        (λ A j m C d x. ⊎_elim (λ y. y) (λ y. absurd (n m C (at c z A j m C y x))) (near i j d))

    rule_more : (c : Clause) → (rule g i).clause ≡ c → {s s' t t' : List ℕ}
        → RuleCounted holds e.one e.two base (rule g i).left c s s' t t'
        → Branching g holds e base (Upto i) s t → Branching g holds e base (Upto (i + 1)) s' t'
    rule_more Clause.Empty z (p, q) b = subst₂ (Branching g holds e base (Upto (i + 1))) (sym p)
        (sym q) (no_link Clause.Empty z (λ l C o. o) b)
    rule_more (Clause.Atom x y) z (p, q) b = subst₂ (Branching g holds e base (Upto (i + 1)))
        (sym p) (sym q) (no_link (Clause.Atom x y) z (λ l C o. o) b)
    rule_more (Clause.Unary B m) z k b =
        branching_more (Upto i) (Upto (i + 1)) i 0 (rule g i).left B (holds m) ⊥ (λ d. omega arith)
        (λ j q d. omega arith)
        (λ A j q C d x. ⊎_elim inl (λ y. inr (y, side q C (at (Clause.Unary B m) z A j q C y x)))
        (near i j d))
        (λ f. (omega arith, linked (Clause.Unary B m) z 0 B (refl, f)))
        (λ A C x. let o = at (Clause.Unary B m) z A i 0 C refl x in (sym x.left, o.0, o.1))
        (λ f d. absurd d) (λ d. subst (λ (c : Clause). Beside e.two c 0) z d) k b
      where
        side : (l C : ℕ) → Over holds e.one (Clause.Unary B m) l C → l ≡ 0
        side zero C o = refl
        side (suc l) C o = absurd o
    rule_more (Clause.Binary B C m) z (u, v, k, k') b =
        branching_more (Half i) (Upto (i + 1)) i 1 (rule g i).left B (In e.one C)
        (In e.two C) (λ d. ⊎_elim (λ y. omega arith) (λ y. omega (arith, y.1)) d)
        (λ j q d. ⊎_elim (λ y. omega arith) (λ y. omega (arith, y.0)) d)
        (λ A j q X d x. ⊎_elim (λ y. inl (inl y))
        (λ y. ⊎_elim (λ o. inl (inr (y, o))) (λ o. inr (y, o))
        (side q X (at (Clause.Binary B C m) z A j q X y x))) (near i j d))
        (λ f. (omega arith, linked (Clause.Binary B C m) z 1 B (refl, f)))
        (λ A X x. let o = at (Clause.Binary B C m) z A i 1 X refl x in
        (sym x.left, o.0, o.1)) (λ f d. subst
        (λ (c : Clause). Beside e.two c 1) (sym z) d)
        (λ d. subst (λ (c : Clause). Beside e.two c 1) z d) k' mid
      where
        side : (l X : ℕ) → Over holds e.one (Clause.Binary B C m) l X → (l ≡ 0) ⊎ (l ≡ 1)
        side zero X o = inl refl
        side (suc zero) X o = inr refl
        side (suc (suc l)) X o = absurd o

        mid : Branching g holds e base (Half i) u v
        mid =
            branching_more (Upto i) (Half i) i 0 (rule g i).left C (In e.one B) (In e.two B)
            (λ d. omega arith) (λ j q d. inl d) (λ A j q X d x. d)
            (λ f. (inr (refl, refl), linked (Clause.Binary B C m) z 0 C (refl, f)))
            (λ A X x. let o = at (Clause.Binary B C m) z A i 0 X refl x in
            (sym x.left, o.0, o.1)) (λ f d. subst (λ (c : Clause). Beside e.two c 0)
            (sym z) d) (λ d. subst (λ (c : Clause). Beside e.two c 0) z d) k b

    pub branches_more : {s s' t t' : List ℕ}
        → RuleCounted holds e.one e.two base (rule g i).left (rule g i).clause s s' t t'
        → Branches g holds e base i s t → Branches g holds e base (i + 1) s' t'
    branches_more = rule_more (rule g i).clause refl

  pub branches_none : {s t : List ℕ} → Selves 64 s → length t ≡ 64
      → ((q : ℕ) → q < 64 → get_or t q 0 ≡ 0) → Branches g holds e base 0 s t
  branches_none {s} {t} o w n = record {
    wide = o.size;
    wide₂ = w;
    one = λ A B h. (
      λ x. inl ((o.own A h B).0 x),
      λ x. ⊎_elim (λ y. (o.own A h B).1 y)
          (λ y. absurd (omega (arith, y.done))) x,
    );
    two = λ A B h. (
      λ x. absurd (in_zero B (subst (λ (z : ℕ). In z B) (n A h) x)),
      λ x. absurd
          (gone x),
    );
  }
    where
      gone : {A B : ℕ} → Forks g holds e base (Upto 0) A B → ⊥
      gone (fork_self z x) = omega (arith, x.done)
      gone (fork_both x y k) = omega (arith, x.done)
      gone (fork_beside x k) = omega (arith, x.done)
