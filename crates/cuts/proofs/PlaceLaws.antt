-- The rules tried by their places: what is passed over is no B rule.
use mathlib.Core.Path.{◌≡◌, refl, sym, ap, ◌∙◌, subst}
use mathlib.Core.List.{List}
use mathlib.Core.Logic.{◌⊎◌, inl, inr, ⊎_elim}
use Prim.Native.Nat.{ℕ, zero, suc, ◌+◌, ◌-◌, ◌≤◌, ◌<◌}
use native.Mathlib.Omega.{arith}
use native.Mathlib.Decide.{ℕ_discrete, dec_lt}
use lib.Bits.{bit_and}
use lib.ListN.{length, get_or-eq_default}
use Rattle.sets.specs.Sets.{In}
use Rattle.sets.proofs.Sets.{in_dec, in_zero, insert_same, insert_keeps}
use Rattle.sets.specs.Insertion.{insert}
use Rattle.grammar.specs.declared.Clause.{Clause}
use Rattle.grammar.specs.Trees.{Rules}
use Rattle.tables.specs.Tables.{no_rule, rule}
use Rattle.cuts.specs.declared.Pair.{Pair}
use Rattle.cuts.specs.declared.Masks.{Masks}
use Rattle.grammar.specs.declared.Verdict.TheVariants as Verdict
use Rattle.cuts.specs.Counts.{More}
use Rattle.cuts.specs.Counts.More.{apart, below}
use Rattle.cuts.specs.Cuts.{CutFits, CutBelow, CutStand, CutCounts}
use Rattle.cuts.specs.Puts.{Least}
use Rattle.cuts.specs.Places.{IsBinary, WithPlace, PlacedAt, LeftsAt}
use Rattle.cuts.proofs.Bits.{in_word}
use Rattle.cuts.proofs.TryLaws.{cut_more, cut_skip}

-- ---- finding them

pub placed_none : (g : Rules) (base : ℕ) → PlacedAt g base 0 0
placed_none g base =
    record {
      all = λ i h b. absurd (omega arith);
      within = λ i x. absurd (in_zero i x);
      binary = λ i x. absurd (in_zero i x);
    }

pub placed_more : {g : Rules} {base i set r : ℕ} → base + i < length g
    → WithPlace set i (rule g (base + i)).clause r → PlacedAt g base i set
    → PlacedAt g base (i + 1) r
placed_more {g} {base} {i} {set} {r} h w p = record {
  all = λ j k b. go j k b (ℕ_discrete j i);
  within = λ j x. ⊎_elim (p.within j)
      (λ z. subst (λ (y : ℕ). base + y < length g) (sym z.0) h) (w.only j x);
  binary = λ j x. ⊎_elim (p.binary j)
      (λ z. subst (λ (y : ℕ). IsBinary (rule g (base + y)).clause) (sym z.0) z.1)
      (w.only j x);
}
  where
    go : (j : ℕ) → j < i + 1 → IsBinary (rule g (base + j)).clause → Dec (j ≡ i) → In r j
    go j k b (yes z) =
        subst (In r) (sym z) (w.has (subst (λ (y : ℕ). IsBinary (rule g (base + y)).clause) z b))
    go j k b (no z) = w.keeps j (p.all j (omega arith) b)

-- past the last rule there is none
past_rule : (g : Rules) (i : ℕ) → length g ≤ i → rule g i ≡ no_rule
past_rule g i h = get_or-eq_default g no_rule h

pub placed_end : {g : Rules} {base i set : ℕ} → length g ≤ base + i → PlacedAt g base i set
    → PlacedAt g base 64 set
placed_end {g} {base} {i} {set} h p =
    record { all = λ j k b. go j b (dec_lt j i); within = p.within; binary = p.binary }
  where
    go : (j : ℕ) → IsBinary (rule g (base + j)).clause → Dec (j < i) → In set j
    go j b (yes z) = p.all j z b
    go j b (no z) =
        absurd (subst (λ r. IsBinary r.clause) (past_rule g (base + j) (omega arith)) b)

-- ---- their lefts

-- the left of each place that is not left
pub record Lefting (g : Rules) (base set rest lefts : ℕ) : Type 0 where
  pub each : (i : ℕ) → In set i → (In rest i → ⊥) → In lefts (rule g (base + i)).left
  pub among : (i : ℕ) → In rest i → In set i

pub lefting_none : (g : Rules) (base set : ℕ) → Lefting g base set set 0
lefting_none g base set = record { each = λ i x n. absurd (n x); among = λ i x. x }

pub lefting_more : {g : Rules} {base set rest lefts r i a : ℕ} → Least rest i
    → (rule g (base + i)).left ≡ a → r ≡ insert lefts a → Lefting g base set rest lefts
    → Lefting g base set (bit_and rest (rest - 1)) r
lefting_more {g} {base} {set} {rest} {lefts} {r} {i} {a} m e f l = record {
  each = λ j x n. subst (λ (v : ℕ). In v (rule g (base + j)).left) (sym f)
      (go j x n (ℕ_discrete j i));
  among = λ j x. l.among j ((m.others j).0 x).0;
}
  where
    go : (j : ℕ) → In set j → (In (bit_and rest (rest - 1)) j → ⊥) → Dec (j ≡ i)
        → In (insert lefts a) (rule g (base + j)).left
    go j x n (yes z) = subst (In (insert lefts a))
        (sym (ap (λ (v : ℕ). (rule g (base + v)).left) z ∙ e)) (insert_same lefts a)
    go j x n (no z) = insert_keeps lefts a (l.each j x (λ y. n ((m.others j).1 (y, z))))

pub lefting_end : {g : Rules} {base set rest lefts : ℕ} → rest ≡ 0
    → Lefting g base set rest lefts → LeftsAt g base set lefts
lefting_end e l = record { each = λ i x. l.each i x (λ y. in_zero i (in_word e y)) }

-- ---- trying them

module _ (rows cols : List ℕ) (p : ℕ) (w : Masks) (g : Rules) where
  no_fit : (c : Clause) → (IsBinary c → ⊥) → (k : ℕ) → CutFits rows cols p w c k → ⊥
  no_fit Clause.Empty n k f = f
  no_fit (Clause.Atom a b) n k f = f
  no_fit (Clause.Unary B m) n k f = f
  no_fit (Clause.Binary B C m) n k f = n tt

  -- rules that are no B rules, or whose left has two trees, are passed over
  pass_by : (d m : ℕ) (t : Pair) → ((i : ℕ) → m ≤ i → i < m + d
      → (IsBinary (rule g i).clause → ⊥) ⊎ In t.two (rule g i).left)
      → CutCounts rows cols p w g m t → CutCounts rows cols p w g (m + d) t
  pass_by zero m t n c =
      subst (λ (x : ℕ). CutCounts rows cols p w g x t) (let z : m ≡ m + 0 = omega arith in z) c
  pass_by (suc d) m t n c =
      let r = pass_by d m t (λ i h k. n i h (omega arith)) c in
      subst (λ (x : ℕ). CutCounts rows cols p w g x t)
      (let z : m + d + 1 ≡ m + suc d = omega arith in z)
      (⊎_elim
      (λ x. cut_more rows cols p w g (m + d) t t
      (record { hits = Verdict.None; tells = no_fit (rule g (m + d)).clause x; adds = refl }) r)
      (λ x. cut_skip rows cols p w g (m + d) t x r)
      (n (m + d) (omega arith) (omega arith)))

  jump : (m o : ℕ) (t : Pair) → m ≤ o → ((i : ℕ) → m ≤ i → i < o → IsBinary (rule g i).clause → ⊥)
      → CutCounts rows cols p w g m t → CutCounts rows cols p w g o t
  jump m o t h n c =
      let z : m + (o - m) ≡ o = omega arith in
      subst (λ (x : ℕ). CutCounts rows cols p w g x t) z
      (pass_by (o - m) m t (λ i a b. inl (n i a (omega arith))) c)

  -- what is tried: the places before upto, and none of those that are left
  pub record Trying (base set rest : ℕ) (t : Pair) : Type 0 where
    pub upto : ℕ
    pub small : upto ≤ 64
    pub counts : CutCounts rows cols p w g (base + upto) t
    pub later : (j : ℕ) → In rest j → upto ≤ j
    pub rests : (j : ℕ) → upto ≤ j → In set j → In rest j
    pub among : (j : ℕ) → In rest j → In set j

  pub trying_none : (base set : ℕ) (t : Pair) → CutCounts rows cols p w g base t
      → Trying base set set t
  trying_none base set t c = record {
    upto = 0;
    small = omega arith;
    counts = subst (λ (x : ℕ). CutCounts rows cols p w g x t)
        (let z : base ≡ base + 0 = omega arith in z) c;
    later = λ j x. omega arith;
    rests = λ j h x. x;
    among = λ j x. x;
  }

  module _ {base set rest : ℕ} {t : Pair} (pl : PlacedAt g base 64 set)
      (y : Trying base set rest t) where
    -- nothing is left out before the place i
    reach : (i : ℕ) → y.upto ≤ i → i ≤ 64 → ((j : ℕ) → In rest j → i ≤ j)
        → CutCounts rows cols p w g (base + i) t
    reach i h k l =
        jump (base + y.upto) (base + i) t (omega arith)
        (λ q a b x. let z : base + (q - base) ≡ q = omega arith in
        let u = l (q - base) (y.rests (q - base) (omega arith)
        (pl.all (q - base) (omega arith)
        (subst (λ (v : ℕ). IsBinary (rule g v).clause) (sym z) x))) in omega arith)
        y.counts

    pub trying_next : {i : ℕ} {u : Pair} → Least rest i
        → (CutCounts rows cols p w g (base + i) t → CutCounts rows cols p w g (base + i + 1) u)
        → Trying base set (bit_and rest (rest - 1)) u
    trying_next {i} {u} m f = record {
      upto = i + 1;
      small = omega (arith, m.small);
      counts = subst (λ (x : ℕ). CutCounts rows cols p w g x u)
          (let z : base + i + 1 ≡ base + (i + 1) = omega arith in z)
          (f (reach i (y.later i m.member) (omega (arith, m.small)) m.least));
      later = λ j x. let q = (m.others j).0 x in let h = m.least j q.0 in go j h q.1;
      rests = λ j h x. (m.others j).1
          (y.rests j (omega (arith, y.later i m.member)) x, λ z. omega arith);
      among = λ j x. y.among j ((m.others j).0 x).0;
    }
      where
        go : (j : ℕ) → i ≤ j → (j ≡ i → ⊥) → i + 1 ≤ j
        go j h n = omega arith

    -- the lefts of all that is left have two trees
    pub trying_full : {lefts : ℕ} → LeftsAt g base set lefts
        → ((a : ℕ) → In lefts a → In t.two a) → CutCounts rows cols p w g (base + 64) t
    trying_full f all =
        let z : base + y.upto + (64 - y.upto) ≡ base + 64 = omega (arith, y.small) in
        subst (λ (x : ℕ). CutCounts rows cols p w g x t) z
        (pass_by (64 - y.upto) (base + y.upto) t (λ i a b. go i a (omega (arith, y.small)))
        y.counts)
      where
        go : (i : ℕ) → base + y.upto ≤ i → i < base + 64
            → (IsBinary (rule g i).clause → ⊥) ⊎ In t.two (rule g i).left
        go i a b = pick (in_dec set (i - base))
          where
            e : base + (i - base) ≡ i
            e = omega arith

            pick : Dec (In set (i - base))
                → (IsBinary (rule g i).clause → ⊥) ⊎ In t.two (rule g i).left
            pick (yes x) = inr (subst (λ (v : ℕ). In t.two (rule g v).left) e
                (all _ (f.each (i - base) x)))
            pick (no n) = inl (λ x. n (pl.all (i - base) (omega arith)
                (subst (λ (v : ℕ). IsBinary (rule g v).clause) (sym e) x)))

    pub trying_end : rest ≡ 0 → CutCounts rows cols p w g (base + 64) t
    trying_end e = reach 64 y.small (omega arith) (λ j x. absurd (in_zero j (in_word e x)))

  -- of no places nothing is left
  pub passed_over : {base set : ℕ} {t : Pair} → PlacedAt g base 64 set → set ≡ 0
      → CutCounts rows cols p w g base t → CutCounts rows cols p w g (base + 64) t
  passed_over {base} {set} {t} pl e c = trying_end pl (trying_none base set t c) e

  -- past the last rule nothing stands
  pub counts_all : (m : ℕ) (t : Pair) → length g ≤ m → CutCounts rows cols p w g m t
      → CutCounts rows cols p w g (length g) t
  counts_all m t h c = record {
    one = λ A. (
      λ x. let q = (c.one A).0 x in
          record { rule = q.rule; cut = q.cut; stands = down A q.rule q.cut q.stands },
      λ q. (c.one A).1 (record {
        rule = q.rule;
        cut = q.cut;
        stands = up A q.rule
            q.cut q.stands;
      }),
    );
    two = λ A. (λ x. downs A ((c.two A).0 x), λ x. (c.two A).1 (ups A x));
  }
    where
      down : (A i k : ℕ) → CutStand rows cols p w g m A i k
          → CutStand rows cols p w g (length g) A i k
      down A i k q = go (dec_lt i (length g))
        where
          go : Dec (i < length g) → CutStand rows cols p w g (length g) A i k
          go (yes l) = record { within = l; left = q.left; fits = q.fits }
          go (no l) = absurd (subst (λ r. CutFits rows cols p w r.clause k)
              (past_rule g i (omega arith)) q.fits)

      up : (A i k : ℕ) → CutStand rows cols p w g (length g) A i k
          → CutStand rows cols p w g m A i k
      up A i k q = record { within = omega (arith, q.within); left = q.left; fits = q.fits }

      downs : (A : ℕ) → More (CutStand rows cols p w g m)
          (λ i k. CutBelow rows cols p (rule g i).clause k) A
          → More (CutStand rows cols p w g (length g))
          (λ i k. CutBelow rows cols p (rule g i).clause k) A
      downs A (apart i k j l x y n) = apart i k j l (down A i k x) (down A j l y) n
      downs A (below i k x y) = below i k (down A i k x) y

      ups : (A : ℕ) → More (CutStand rows cols p w g (length g))
          (λ i k. CutBelow rows cols p (rule g i).clause k) A
          → More (CutStand rows cols p w g m) (λ i k. CutBelow rows cols p (rule g i).clause k)
          A
      ups A (apart i k j l x y n) = apart i k j l (up A i k x) (up A j l y) n
      ups A (below i k x y) = below i k (up A i k x) y
