-- Filling, span by span: a pass keeps what is grounded, a pass that adds nothing settles the span,
-- and settled spans stay so while other pairs are written.
use mathlib.Core.Path.{◌≡◌, refl, sym, ap, ◌∙◌, subst}
use mathlib.Core.Logic.{inl, inr, ⊎_elim}
use mathlib.Core.List.{List}
use Prim.Native.Nat.{ℕ, zero, suc, ◌+◌, ◌-◌, ◌*◌, ◌≤◌, ◌<◌}
use native.Mathlib.Omega.{arith}
use native.Mathlib.Nat.{not-suc-le-zero}
use lib.ListN.{length, get_or}
use Rattle.sets.specs.Sets.{In}
use Rattle.grammar.specs.declared.Clause.{Clause}
use Rattle.grammar.specs.Trees.{Rules, Derives, TwoTrees}
use Rattle.grammar.specs.SpanSheet.{part, pair_at, first_word, second_word}
use Rattle.marks.specs.declared.Draft.{Draft}
use Rattle.marks.specs.declared.SpanMarks.{SpanMarks}
use Rattle.marks.proofs.DraftLaws.{drafted_length}
use Rattle.marks.specs.Half.{Half}
use Rattle.marks.specs.Marked.{Marked}
use Rattle.spans.specs.Changes.{Kept, WrotePair}
use Rattle.spans.proofs.Places.{pair_at_same, pair_at_empty}
use Rattle.tables.specs.Tables.{Table, One, Two, Leave, by_tokens, by_marks, Fits, Stand, Again}
use Rattle.tables.specs.Tables.{Below, rule}
use Rattle.tables.specs.Tables.Again.{apart, below}
use Rattle.joins.specs.declared.Tally.{Tally}
use Rattle.joins.specs.Passes.{Leaves, Saturated}
use Rattle.tables.specs.Settled.{Settled, Ground}
use Rattle.chart.specs.Filling.{Whole, Closed, Given}
use Rattle.chart.specs.Openness.{anything, Open}
use Rattle.joins.proofs.PassLaws.{inner_from, passes_from}
use Rattle.joins.proofs.Coverage.{each_found, again_found}
use Rattle.tables.proofs.Views.{tokens_marks, stand_view, again_view}
use Rattle.grammar.specs.Distinct.{Distinct}

-- a draft that counts no more tokens than its array has places
pub whole : {N : ℕ} (d : Draft N) → length d.tokens ≡ N → N ≤ 64 → d.count ≤ N
    → d.known ≤ d.count → Whole d
whole d long most few inner = record {
  few = omega arith;
  long = drafted_length d long few;
  inner = inner;
}

-- ---- a word of the pair p is as it was, where the pair is another

module _ (ws ws' : List ℕ) (n p : ℕ) (kept : Kept ws ws' p) where
  pub first_kept : (a b : ℕ) → (pair_at n a b ≡ p → ⊥) → first_word ws' n a b ≡ first_word ws n a b
  first_kept a b other = kept.rest (2 * pair_at n a b) (λ e. other (omega arith)) (omega arith)

  pub second_kept : (a b : ℕ) → (pair_at n a b ≡ p → ⊥)
      → second_word ws' n a b ≡ second_word ws n a b
  second_kept a b other = kept.rest (2 * pair_at n a b + 1) (omega arith) (λ e. other (omega arith))

-- a shorter part has another pair
shorter_other : (n s len a b : ℕ) → s + len ≤ n → a + b ≤ s + len → (b ≡ len → ⊥)
    → pair_at n a b ≡ pair_at n s len → ⊥
shorter_other n s len a b fit h other e = other (pair_at_same n a b s len (omega arith) fit e).0

-- ---- the pairs of single tokens are given

pub given_same : (ws : List ℕ) (n : ℕ) → Given ws ws n
given_same ws n = record { first = λ i x. refl; second = λ i x. refl }

pub given_then : {ws ws' ws'' : List ℕ} {n : ℕ} → Given ws ws' n → Given ws' ws'' n
    → Given ws ws'' n
given_then f g = record {
  first = λ i x. g.first i x ∙ f.first i x;
  second = λ i x. g.second i x
      ∙ f.second i x;
}

-- the pair of a longer span is written
pub given_kept : (ws ws' : List ℕ) (n s len : ℕ) → s + len ≤ n → 2 ≤ len
    → Kept ws ws' (pair_at n s len) → Given ws ws' n
given_kept ws ws' n s len fit long k = record {
  first = λ i x. first_kept ws ws' n (pair_at n s len) k i 1 (other i x);
  second = λ i x. second_kept ws ws' n (pair_at n s len) k i 1 (other i x);
}
  where
    other : (i : ℕ) → i < n → pair_at n i 1 ≡ pair_at n s len → ⊥
    other i x e = let z = pair_at_same n i 1 s len (omega arith) fit e in omega (arith, z.0)

-- ---- the span is settled

module _ (ws ws' : List ℕ) (g : Rules) (h : Half) (n s len : ℕ) (k : SpanMarks) (b t : Tally)
    (distinct : Distinct g) (known : h.known ≤ length h.word) (fit : s + len ≤ n)
    (marked : Marked h s len k) (ground : Ground ws g h n s len)
    (short : len < 2) (leaves : Leaves k len g (length g) b)
    (sat : Saturated (get_or ws 0 0) (get_or ws 1 0) k len g b t)
    (w : WrotePair ws ws' (pair_at n s len) t.one t.two) where
  shorter : (a c : ℕ) → c < len → a + c ≤ s + len → pair_at n a c ≡ pair_at n s len → ⊥
  shorter a c x y = shorter_other n s len a c fit y (omega arith)

  first : (a c : ℕ) → c < len → a + c ≤ s + len → first_word ws' n a c ≡ first_word ws n a c
  first a c x y = first_kept ws ws' n (pair_at n s len) w.kept a c (shorter a c x y)

  second : (a c : ℕ) → c < len → a + c ≤ s + len → second_word ws' n a c ≡ second_word ws n a c
  second a c x y = second_kept ws ws' n (pair_at n s len) w.kept a c (shorter a c x y)

  -- the first two words are the pair of the empty word, wherever it stands
  empty_first : (a : ℕ) → first_word ws n a 0 ≡ get_or ws 0 0
  empty_first a = ap (λ (x : ℕ). get_or ws (2 * x) 0) (pair_at_empty n a)

  empty_second : (a : ℕ) → second_word ws n a 0 ≡ get_or ws 1 0
  empty_second a = ap (λ (x : ℕ). get_or ws (2 * x + 1) 0) (pair_at_empty n a)

  nulls : 0 < len → (a A : ℕ) → s ≤ a → a ≤ s + len → a ≤ h.known → In (get_or ws 0 0) A
      → Derives g A (part h.word a 0)
  nulls z a A x y kn m = (ground.parts a 0 x (omega arith) z).derived A (omega arith)
      (subst (λ (q : ℕ). In q A) (sym (empty_first a)) m)

  nulls₂ : 0 < len → (a A : ℕ) → s ≤ a → a ≤ s + len → a ≤ h.known → In (get_or ws 1 0) A
      → TwoTrees g A (part h.word a 0)
  nulls₂ z a A x y kn m = (ground.parts a 0 x (omega arith) z).more A (omega arith)
      (subst (λ (q : ℕ). In q A) (sym (empty_second a)) m)

  sound : s + len ≤ h.known → ((A : ℕ) → In t.one A → Derives g A (part h.word s len))
      × ((A : ℕ) → In t.two A → TwoTrees g A (part h.word s len))
  sound kn =
      passes_from g h known distinct s len kn k marked (get_or ws 0 0) (get_or ws 1 0)
      (λ z a A x y. nulls z a A x y (omega arith)) (λ z a A x y. nulls₂ z a A x y (omega arith))
      b (inner_from g h known distinct s len kn k marked b leaves) sat.passes

  pub closed : Closed ws ws' g h n s len
  closed = record {
    kept = w.kept;
    settled = record {
      derived = λ A kn m. (sound kn).0 A (subst (λ (q : ℕ). In q A) w.first m);
      more = λ A kn m. (sound kn).1 A (subst (λ (q : ℕ). In q A) w.second m);
      each = λ A i l u c. each A i l (stand_view (One ws' n) g (by_tokens h s len) (by_marks k len)
          s
          len A i l (tokens_marks h s len k marked) c);
      again = λ A u c. again A (again_view (One ws' n) (Two ws' n) g (by_tokens h s len)
          (by_marks k len) s len A (tokens_marks h s len k marked) c);
    };
  }
    where
      each : (A i l : ℕ) → Stand (One ws' n) g (by_marks k len) s len A i l → One ws' n s len A
      each = each_found ws' g n s len k t.one t.two (get_or ws 0 0)
          (get_or ws 1 0) w.first w.second (λ z a y. first a 0 z (omega arith) ∙ empty_first a)
          (λ z a y. second a 0 z (omega arith) ∙ empty_second a) b t short leaves sat refl refl

      again : (A : ℕ) → Again (One ws' n) (Two ws' n) g (by_marks k len) s len A → Two ws' n s len A
      again = again_found ws' g n s len k t.one t.two (get_or ws 0 0)
          (get_or ws 1 0) w.first w.second (λ z a y. first a 0 z (omega arith) ∙ empty_first a)
          (λ z a y. second a 0 z (omega arith) ∙ empty_second a) b t short leaves sat refl refl

-- ---- what stands over a span goes by its parts alone

-- what one table has of the parts of a span, another has
abbrev Parts : Table → Table → ℕ → ℕ → Type 0
Parts one one' s len = (a b B : ℕ) → s ≤ a → a + b ≤ s + len → one a b B → one' a b B

fits_by : (one one' : Table) (v : Leave) (s len : ℕ) (c : Clause) (l : ℕ) → Parts one one' s len
    → Fits one v s len c l → Fits one' v s len c l
fits_by one one' v s len Clause.Empty l f q = q
fits_by one one' v s len (Clause.Atom a a') l f q = q
fits_by one one' v s len (Clause.Unary B m) l f q =
    (f s len B (omega arith) (omega arith) q.0, q.1, q.2)
fits_by one one' v s len (Clause.Binary B C m) l f q =
    let h : l ≤ len = q.0 in (
      h,
      f s l B (omega arith) (omega arith) q.1,
      f (s + l) (len - l) C (omega arith)
          (omega arith) q.2,
      q.3,
    )

below_by : (one two two' : Table) (v : Leave) (s len : ℕ) (c : Clause) (l : ℕ)
    → Parts two two' s len → Fits one v s len c l → Below two s len c l → Below two' s len c l
below_by one two two' v s len Clause.Empty l f q b = b
below_by one two two' v s len (Clause.Atom a a') l f q b = b
below_by one two two' v s len (Clause.Unary B m) l f q b = f s len B (omega arith) (omega arith) b
below_by one two two' v s len (Clause.Binary B C m) l f q b =
    let h : l ≤ len = q.0 in
    ⊎_elim (λ x. inl (f s l B (omega arith) (omega arith) x))
    (λ x. inr (f (s + l) (len - l) C (omega arith) (omega arith) x)) b

stand_by : (one one' : Table) (r : Rules) (v : Leave) (s len A i l : ℕ) → Parts one one' s len
    → Stand one r v s len A i l → Stand one' r v s len A i l
stand_by one one' r v s len A i l f c = record {
  within = c.within;
  left = c.left;
  fits = fits_by one one' v s len (rule r i).clause l f c.fits;
}

again_by : (one one' two two' : Table) (r : Rules) (v : Leave) (s len A : ℕ) → Parts one one' s len
    → Parts two two' s len → Again one two r v s len A → Again one' two' r v s len A
again_by one one' two two' r v s len A f g (apart i l j k c d n) =
    apart i l j k (stand_by one one' r v s len A i l f c) (stand_by one one' r v s len A j k f d) n
again_by one one' two two' r v s len A f g (below i l c b) =
    below i l (stand_by one one' r v s len A i l f c)
    (below_by one two two' v s len (rule r i).clause l g c.fits b)

-- a span stays settled where the pair of no part of it is written
module _ (ws ws' : List ℕ) (g : Rules) (h : Half) (n s len p : ℕ) (kept : Kept ws ws' p)
    (clear : (a b : ℕ) → s ≤ a → a + b ≤ s + len → pair_at n a b ≡ p → ⊥) where
  one_to : Parts (One ws n) (One ws' n) s len
  one_to a b B x y m =
      subst (λ (q : ℕ). In q B) (sym (first_kept ws ws' n p kept a b (clear a b x y))) m

  one_from : Parts (One ws' n) (One ws n) s len
  one_from a b B x y m =
      subst (λ (q : ℕ). In q B) (first_kept ws ws' n p kept a b (clear a b x y)) m

  two_to : Parts (Two ws n) (Two ws' n) s len
  two_to a b B x y m =
      subst (λ (q : ℕ). In q B) (sym (second_kept ws ws' n p kept a b (clear a b x y))) m

  two_from : Parts (Two ws' n) (Two ws n) s len
  two_from a b B x y m =
      subst (λ (q : ℕ). In q B) (second_kept ws ws' n p kept a b (clear a b x y)) m

  pub settled_kept : Settled (One ws n) (Two ws n) g h s len
      → Settled (One ws' n) (Two ws' n) g h s len
  settled_kept t = record {
    derived = λ A kn m. t.derived A kn (one_from s len A (omega arith) (omega arith) m);
    more = λ A kn m. t.more A kn (two_from s len A (omega arith) (omega arith) m);
    each = λ A i l u c. one_to s len A (omega arith) (omega arith)
        (t.each A i l u (stand_by (One ws' n) (One ws n) g (by_tokens h s len) s len A i l one_from
        c));
    again = λ A u q. two_to s len A (omega arith) (omega arith)
        (t.again A u (again_by (One ws' n) (One ws n) (Two ws' n) (Two ws n) g (by_tokens h s len) s
        len A one_from two_from q));
  }

-- what stands over open tokens does, where the pair of no span of theirs is written
pub open_kept : {g : Rules} {n to p : ℕ} {ws : List ℕ} (ws' : List ℕ) → Kept ws ws' p
    → ((a b : ℕ) → to ≤ a → a + b ≤ n → pair_at n a b ≡ p → ⊥) → Open g n ws to → Open g n ws' to
open_kept {g} {n} {to} {p} {ws} ws' kept clear o = record {
  each = λ a b A i l x y f c. subst (λ (q : ℕ). In q A)
      (sym (first_kept ws ws' n p kept a b (clear a b x f)))
      (o.each a b A i l x y f (stand_by (One ws' n) (One ws n) g anything a b A i l (one a b x f)
      c));
  again = λ a b A x y f c. subst (λ (q : ℕ). In q A)
      (sym (second_kept ws ws' n p kept a b (clear a b x f)))
      (o.again a b A x y f (again_by (One ws' n) (One ws n) (Two ws' n) (Two ws n) g anything a b A
      (one a b x f) (two a b x f) c));
}
  where
    one : (a b : ℕ) → to ≤ a → a + b ≤ n → Parts (One ws' n) (One ws n) a b
    one a b x f c d B u v m = subst (λ (q : ℕ). In q B)
        (first_kept ws ws' n p kept c d (clear c d (omega arith) (omega arith))) m

    two : (a b : ℕ) → to ≤ a → a + b ≤ n → Parts (Two ws' n) (Two ws n) a b
    two a b x f c d B u v m = subst (λ (q : ℕ). In q B)
        (second_kept ws ws' n p kept c d (clear c d (omega arith) (omega arith))) m

-- ---- an empty span is like another

abbrev Anywhere : Table → Type 0
Anywhere one = (s s' B : ℕ) → one s 0 B → one s' 0 B

fits_empty : (one : Table) (h : Half) (s s' : ℕ) (c : Clause) (l : ℕ) → Anywhere one
    → Fits one (by_tokens h s 0) s 0 c l → Fits one (by_tokens h s' 0) s' 0 c l
fits_empty one h s s' Clause.Empty l f q = q
fits_empty one h s s' (Clause.Atom a a') l f q =
    absurd (let z : ◌≡◌ {A = ℕ} 0 1 = q.0 in omega arith)
fits_empty one h s s' (Clause.Unary B m) l f q =
    (f s s' B q.0, record { keeps = λ i x. absurd (not-suc-le-zero x) }, q.2)
fits_empty one h s s' (Clause.Binary B C m) zero f q = (
  q.0,
  f s s' B q.1,
  f (s + 0) (s' + 0) C q.2,
  record
      { pairs = λ x. absurd (not-suc-le-zero x) },
)
fits_empty one h s s' (Clause.Binary B C m) (suc l) f q = absurd (not-suc-le-zero q.0)

below_empty : (one two : Table) (v : Leave) (s s' : ℕ) (c : Clause) (l : ℕ) → Anywhere two
    → Fits one v s 0 c l → Below two s 0 c l → Below two s' 0 c l
below_empty one two v s s' Clause.Empty l f q b = b
below_empty one two v s s' (Clause.Atom a a') l f q b = b
below_empty one two v s s' (Clause.Unary B m) l f q b = f s s' B b
below_empty one two v s s' (Clause.Binary B C m) zero f q b =
    ⊎_elim (λ x. inl (f s s' B x)) (λ x. inr (f (s + 0) (s' + 0) C x)) b
below_empty one two v s s' (Clause.Binary B C m) (suc l) f q b = absurd (not-suc-le-zero q.0)

stand_empty : (one : Table) (r : Rules) (h : Half) (s s' A i l : ℕ) → Anywhere one
    → Stand one r (by_tokens h s 0) s 0 A i l → Stand one r (by_tokens h s' 0) s' 0 A i l
stand_empty one r h s s' A i l f c = record {
  within = c.within;
  left = c.left;
  fits = fits_empty one h s s' (rule r i).clause l f c.fits;
}

again_empty : (one two : Table) (r : Rules) (h : Half) (s s' A : ℕ) → Anywhere one → Anywhere two
    → Again one two r (by_tokens h s 0) s 0 A → Again one two r (by_tokens h s' 0) s' 0 A
again_empty one two r h s s' A f g (apart i l j k c d n) =
    apart i l j k (stand_empty one r h s s' A i l f c) (stand_empty one r h s s' A j k f d) n
again_empty one two r h s s' A f g (below i l c b) =
    below i l (stand_empty one r h s s' A i l f c)
    (below_empty one two (by_tokens h s 0) s s' (rule r i).clause l g c.fits b)

pub settled_empty : (ws : List ℕ) (g : Rules) (h : Half) (n a : ℕ)
    → Settled (One ws n) (Two ws n) g h 0 0 → Settled (One ws n) (Two ws n) g h a 0
settled_empty ws g h n a t = record {
  derived = λ A kn m. t.derived A (omega arith) (one a 0 A m);
  more = λ A kn m. t.more A (omega arith) (two a 0 A m);
  each = λ A i l u c. one 0 a A (t.each A i l
      (λ e. absurd (let z : ◌≡◌ {A = ℕ} 0 1 = e in omega arith))
      (stand_empty (One ws n) g h a 0 A i l one c));
  again = λ A u q. two 0 a A (t.again A (λ e. absurd (let z : ◌≡◌ {A = ℕ} 0 1 = e in omega arith))
      (again_empty (One ws n) (Two ws n) g h a 0 A one two q));
}
  where
    one : Anywhere (One ws n)
    one x y B m =
        subst (λ (q : ℕ). In (get_or ws (2 * q) 0) B) (pair_at_empty n x ∙ sym (pair_at_empty n y))
        m

    two : Anywhere (Two ws n)
    two x y B m = subst (λ (q : ℕ). In (get_or ws (2 * q + 1) 0) B)
        (pair_at_empty n x ∙ sym (pair_at_empty n y)) m
