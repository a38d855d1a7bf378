-- From the tries over a span to its pair: what they find has trees, and when a pass adds nothing
-- they have found all.
use mathlib.Core.Path.{◌≡◌, refl, sym, ap, subst}
use mathlib.Core.Logic.{◌⊎◌, inl, inr, ⊎_elim}
use Prim.Native.Nat.{ℕ, zero, suc, ◌+◌, ◌-◌, ◌≤◌, ◌<◌}
use native.Mathlib.Omega.{arith}
use native.Mathlib.Decide.{ℕ_discrete, dec_lt}
use lib.ListN.{length}
use Rattle.sets.specs.Sets.{In}
use Rattle.sets.proofs.Sets.{in_zero}
use Rattle.grammar.specs.declared.Clause.{Clause}
use Rattle.grammar.specs.declared.BinaryMark.{BinaryMark}
use Rattle.grammar.specs.Trees.{Rules, Derives, TwoTrees}
use Rattle.grammar.specs.SpanSheet.{part}
use Rattle.marks.specs.declared.SpanMarks.{SpanMarks}
use Rattle.marks.specs.Half.{Half}
use Rattle.marks.specs.Marked.{Marked, UnaryBy, BinaryBy}
use Rattle.joins.specs.declared.Tally.{Tally}
use Rattle.tables.specs.Tables.{Table, Leave, by_tokens, Fits, Stand, Below}
use Rattle.tables.specs.Tables.{Again, rule}
use Rattle.tables.specs.Tables.Again.{apart, below}
use Rattle.joins.specs.Passes.{fell, LeafFits, Leaves, leaves_none}
use Rattle.joins.specs.Passes.{leaves_more, Beside, alone, both, WholeSide, Pass}
use Rattle.joins.specs.Passes.{pass_none, pass_more, resumed, Passes, passes_none}
use Rattle.joins.specs.Passes.{passes_more, Saturated}
use Rattle.joins.proofs.TallyLaws.{Done, StandingChoices, took_one, took_two, took_in_one}
use Rattle.joins.proofs.TallyLaws.{took_in_two, From, from_none, from_same, Brings}
use Rattle.joins.proofs.TallyLaws.{from_took, from_sets}
use Rattle.tables.proofs.Soundness.{sound_stand, sound_again}
use Rattle.grammar.specs.Distinct.{Distinct}

-- ---- tries that change nothing

wide_none : (one two : ℕ) (k : SpanMarks) (len a : ℕ) (c : Clause) (t : Tally) → t.one ≡ 0
    → WholeSide one two k len a c t t
wide_none one two k len a Clause.Empty t e = refl
wide_none one two k len a (Clause.Atom c c') t e = refl
wide_none one two k len a (Clause.Unary B m) t e =
    fell (λ q. in_zero B (subst (λ (z : ℕ). In z B) e q.0)) refl
wide_none one two k len a (Clause.Binary B C m) t e = go (ℕ_discrete len 0)
  where
    go : Dec (len ≡ 0) → Beside one two len a B C t t
    go (yes z) = alone z (fell (λ q. in_zero B (subst (λ (x : ℕ). In x B) e q.0)) refl)
    go (no z) = both (omega arith) t
        (fell (λ q. in_zero C (subst (λ (x : ℕ). In x C) e q.1)) refl)
        (fell (λ q. in_zero B (subst (λ (x : ℕ). In x B) e q.0)) refl)

-- where nothing stands over the span, nothing has it on one side
pass_idle : (one two : ℕ) (k : SpanMarks) (len : ℕ) (g : Rules) (t : Tally) → t.one ≡ 0 → (d i : ℕ)
    → i + d ≡ length g → Pass one two k len g t i t
pass_idle one two k len g t e zero i h =
    subst (λ (x : ℕ). Pass one two k len g t x t) (omega arith) pass_none
pass_idle one two k len g t e (suc d) i h = pass_more
    (pass_idle one two k len g t e d (i + 1) (omega arith))
    (wide_none one two k len (rule g i).left (rule g i).clause t e)

pub saturated_idle : (one two : ℕ) (k : SpanMarks) (len : ℕ) (g : Rules) (b : Tally) → b.one ≡ 0
    → Saturated one two k len g b b
saturated_idle one two k len g b e = record {
  passes = passes_none;
  last = resumed b b;
  passed = pass_idle one two k len g (resumed b b) e
      (length g) 0 (omega arith);
  same_one = refl;
  same_two = refl;
}

-- ---- a pass adds to the sets

wide_one : (one two : ℕ) (k : SpanMarks) (len a : ℕ) (c : Clause) (t u : Tally)
    → WholeSide one two k len a c t u → (t.one ≤ u.one) × (t.two ≤ u.two)
wide_one one two k len a Clause.Empty t u e = let x = ap (λ (z : Tally). z.one) e in let y =
    ap (λ (z : Tally). z.two) e in (omega arith, omega arith)
wide_one one two k len a (Clause.Atom c c') t u e = let x = ap (λ (z : Tally). z.one) e in let y =
    ap (λ (z : Tally). z.two) e in (omega arith, omega arith)
wide_one one two k len a (Clause.Unary B m) t u w = (took_one w, took_two w)
wide_one one two k len a (Clause.Binary B C m) t u (alone z w) = (took_one w, took_two w)
wide_one one two k len a (Clause.Binary B C m) t u (both z v w w') =
    (omega (arith, took_one w, took_one w'), omega (arith, took_two w, took_two w'))

pub pass_grows : {one two : ℕ} {k : SpanMarks} {len : ℕ} {g : Rules} {t u : Tally} {i : ℕ}
    → Pass one two k len g t i u → (t.one ≤ u.one) × (t.two ≤ u.two)
pass_grows pass_none = (omega arith, omega arith)
pass_grows {one} {two} {k} {len} {g} {t} {u = v} {i} (pass_more {u = u} q w) =
    let x = pass_grows q in
    let y = wide_one one two k len (rule g i).left (rule g i).clause u v w in
    (omega (arith, x.0, y.0), omega (arith, x.1, y.1))

pub sum_grows : (f h a b : ℕ) → f ≤ a → h ≤ b → ((a ≡ f) × (b ≡ h) → ⊥) → f + h < a + b
sum_grows f h a b x y z = go (dec_lt (f + h) (a + b))
  where
    go : Dec (f + h < a + b) → f + h < a + b
    go (yes l) = l
    go (no k) = absurd (z (omega arith, omega arith))

wide_in : (one two : ℕ) (k : SpanMarks) (len a : ℕ) (c : Clause) (t u : Tally)
    → WholeSide one two k len a c t u → (A : ℕ)
    → (In t.one A → In u.one A) × (In t.two A → In u.two A)
wide_in one two k len a Clause.Empty t u e A =
    (subst (λ (z : Tally). In z.one A) (sym e), subst (λ (z : Tally). In z.two A) (sym e))
wide_in one two k len a (Clause.Atom c c') t u e A =
    (subst (λ (z : Tally). In z.one A) (sym e), subst (λ (z : Tally). In z.two A) (sym e))
wide_in one two k len a (Clause.Unary B m) t u w A = (took_in_one w A, took_in_two w A)
wide_in one two k len a (Clause.Binary B C m) t u (alone z w) A = (took_in_one w A, took_in_two w A)
wide_in one two k len a (Clause.Binary B C m) t u (both z v w w') A =
    (λ x. took_in_one w' A (took_in_one w A x), λ x. took_in_two w' A (took_in_two w A x))

pass_in : {one two : ℕ} {k : SpanMarks} {len : ℕ} {g : Rules} {t u : Tally} {i : ℕ}
    → Pass one two k len g t i u → (A : ℕ)
    → (In t.one A → In u.one A) × (In t.two A → In u.two A)
pass_in pass_none A = (λ x. x, λ x. x)
pass_in {one} {two} {k} {len} {g} {t} {u = v} {i} (pass_more {u = u} q w) A =
    let x = pass_in q A in
    let y = wide_in one two k len (rule g i).left (rule g i).clause u v w A in
    (λ z. y.0 (x.0 z), λ z. y.1 (x.1 z))

pub passes_one : {one two : ℕ} {k : SpanMarks} {len : ℕ} {g : Rules} {b t : Tally}
    → Passes one two k len g b t → (A : ℕ) → In b.one A → In t.one A
passes_one passes_none A m = m
passes_one (passes_more q w) A m = (pass_in w A).0 (passes_one q A m)

pub passes_two : {one two : ℕ} {k : SpanMarks} {len : ℕ} {g : Rules} {b t : Tally}
    → Passes one two k len g b t → (A : ℕ) → In b.two A → In t.two A
passes_two passes_none A m = m
passes_two (passes_more q w) A m = (pass_in w A).1 (passes_two q A m)

-- ---- which choices are inner, and which have the whole span on one side

abbrev pub Inside : ℕ → Clause → ℕ → Type 0
Inside len Clause.Empty l = Unit {0}
Inside len (Clause.Atom a a') l = Unit {0}
Inside len (Clause.Unary B m) l = ⊥
Inside len (Clause.Binary B C m) l = (0 < l) × (l < len)

abbrev pub AtEnd : ℕ → Clause → ℕ → Type 0
AtEnd len Clause.Empty l = ⊥
AtEnd len (Clause.Atom a a') l = ⊥
AtEnd len (Clause.Unary B m) l = l ≡ 0
AtEnd len (Clause.Binary B C m) l = (l ≡ 0) ⊎ (l ≡ len)

pub inside_or_edge : (one : Table) (v : Leave) (s len : ℕ) (c : Clause) (l : ℕ)
    → Fits one v s len c l → Inside len c l ⊎ AtEnd len c l
inside_or_edge one v s len Clause.Empty l q = inl tt
inside_or_edge one v s len (Clause.Atom a a') l q = inl tt
inside_or_edge one v s len (Clause.Unary B m) l q = inr q.2
inside_or_edge one v s len (Clause.Binary B C m) l q = go (ℕ_discrete l 0) (ℕ_discrete l len)
  where
    go : Dec (l ≡ 0) → Dec (l ≡ len) → ((0 < l) × (l < len)) ⊎ ((l ≡ 0) ⊎ (l ≡ len))
    go (yes x) y = inr (inl x)
    go (no x) (yes y) = inr (inr y)
    go (no x) (no y) = inl (omega arith, omega (arith, q.0))

-- the inner choices
abbrev pub InnerDone : Rules → ℕ → Done
InnerDone g len j l = Inside len (rule g j).clause l

-- those of the rules before i
abbrev pub LeafDone : Rules → ℕ → ℕ → Done
LeafDone g len i j l = (j < i) × Inside len (rule g j).clause l

-- all inner ones, and of the rules from i on the others
abbrev pub WideDone : Rules → ℕ → ℕ → Done
WideDone g len i j l = Inside len (rule g j).clause l ⊎ ((i ≤ j) × AtEnd len (rule g j).clause l)

-- while the rule i is tried: with the empty word on its left it is done
abbrev pub HalfDone : Rules → ℕ → ℕ → Done
HalfDone g len i j l = WideDone g len (i + 1) j l ⊎ ((j ≡ i) × (l ≡ 0))

pub below_or_at : (i j : ℕ) → j < i + 1 → (j < i) ⊎ (j ≡ i)
below_or_at i j h = go (dec_lt j i)
  where
    go : Dec (j < i) → (j < i) ⊎ (j ≡ i)
    go (yes l) = inl l
    go (no n) = inr (omega arith)

pub after_or_at : (i j : ℕ) → i ≤ j → (i + 1 ≤ j) ⊎ (j ≡ i)
after_or_at i j h = go (dec_lt i j)
  where
    go : Dec (i < j) → (i + 1 ≤ j) ⊎ (j ≡ i)
    go (yes l) = inl (omega arith)
    go (no n) = inr (omega arith)

leaf_inside : (k : SpanMarks) (len : ℕ) (c : Clause) → LeafFits k len c → Inside len c 0
leaf_inside k len Clause.Empty q = tt
leaf_inside k len (Clause.Atom a a') q = tt
leaf_inside k len (Clause.Unary B m) q = q
leaf_inside k len (Clause.Binary B C m) q = absurd q

wide_done_on : (g : Rules) (len i : ℕ) (j l : ℕ) → WideDone g len (i + 1) j l → WideDone g len i j l
wide_done_on g len i j l d = ⊎_elim inl (λ x. inr (omega (arith, x.0), x.1)) d

-- a choice with the whole span on one side is not done before its rule is tried
wide_new : (g : Rules) (len i l : ℕ) (c : Clause) → (rule g i).clause ≡ c → (Inside len c l → ⊥)
    → WideDone g len (i + 1) i l → ⊥
wide_new g len i l c e out d =
    ⊎_elim (λ x. out (subst (λ (y : Clause). Inside len y l) e x)) (λ x. omega (arith, x.0)) d

-- where one word is empty each mark holds
pub edge_mark : (k : SpanMarks) (len : ℕ) (m : BinaryMark) (l : ℕ) → (0 < l → l < len → ⊥)
    → BinaryBy k len m l
edge_mark k len BinaryMark.None l out = tt
edge_mark k len BinaryMark.Align l out = λ x y. absurd (out x y)
edge_mark k len BinaryMark.Indent l out = λ x y. absurd (out x y)

pass_upto : {one two : ℕ} {k : SpanMarks} {len : ℕ} {g : Rules} {t u : Tally} {i : ℕ}
    → Pass one two k len g t i u → i ≤ length g
pass_upto pass_none = omega arith
pass_upto (pass_more q w) = let x = pass_upto q in omega arith

pub pass_within : {one two : ℕ} {k : SpanMarks} {len : ℕ} {g : Rules} {t u : Tally} {i : ℕ}
    → Pass one two k len g t (i + 1) u → i < length g
pass_within q = let x = pass_upto q in omega arith

-- ---- what the tries find has trees

abbrev Truth : Rules → Half → Table
Truth g h a b A = Derives g A (part h.word a b)

abbrev Truth₂ : Rules → Half → Table
Truth₂ g h a b A = TwoTrees g A (part h.word a b)

module _ (g : Rules) (h : Half) (inner : h.known ≤ length h.word) (distinct : Distinct g)
    (s len : ℕ) (kn : s + len ≤ h.known) (k : SpanMarks) (marked : Marked h s len k) where
  abbrev Real : StandingChoices
  Real A j l = Stand (Truth g h) g (by_tokens h s len) s len A j l

  abbrev pub HasOne : ℕ → Type 0
  HasOne A = Derives g A (part h.word s len)

  abbrev pub HasTwo : ℕ → Type 0
  HasTwo A = TwoTrees g A (part h.word s len)

  abbrev pub Sounds : Done → Tally → Type 0
  Sounds D t = From Real HasOne HasTwo D t

  again_two : (A : ℕ) → Again (Truth g h) (Truth₂ g h) g (by_tokens h s len) s len A → HasTwo A
  again_two = sound_again (Truth g h) (Truth₂ g h) g h inner distinct s len kn (λ a b A x y m. m)
      (λ a b A x y m. m)

  -- a choice that stands over what has trees has them
  brings : (i l : ℕ) (fits below' : Type 0) → i < length g
      → (fits → Fits (Truth g h) (by_tokens h s len) s len (rule g i).clause l)
      → (fits → below' → Below (Truth₂ g h) s len (rule g i).clause l)
      → Brings Real HasOne HasTwo fits below' (rule g i).left i l
  brings i l fits below' w f b = record {
    stands = stand;
    one = λ x. sound_stand (Truth g h) g h inner s len kn (λ a b A x y m. m) (rule g i).left i l
        (stand x);
    below = λ x y. again_two (rule g i).left (below i l (stand x) (b x y));
    apart = λ j k' c x n. again_two (rule g i).left (apart j k' i l c (stand x) n);
  }
    where
      stand : fits → Stand (Truth g h) g (by_tokens h s len) s len (rule g i).left i l
      stand x = record { within = w; left = refl; fits = f x }

  leaf_truth : (c : Clause) → LeafFits k len c → Fits (Truth g h) (by_tokens h s len) s len c 0
  leaf_truth Clause.Empty q = (q, refl)
  leaf_truth (Clause.Atom a a') q = (q.0, refl, (marked.atom q.0 a a').0 q.1)
  leaf_truth (Clause.Unary B m) q = absurd q
  leaf_truth (Clause.Binary B C m) q = absurd q

  leaves_from : {i : ℕ} {t : Tally} → i ≤ length g → Leaves k len g i t
      → Sounds (LeafDone g len i) t
  leaves_from b leaves_none = from_none Real HasOne HasTwo (LeafDone g len 0)
  leaves_from b (leaves_more {i = i} {t = t} {u = u} q w) =
      from_took Real HasOne HasTwo (LeafDone g len i) (LeafDone g len (i + 1)) i 0 (rule g i).left
      t u
      (λ d. omega (arith, d.0)) (λ j l d. (omega (arith, d.0), d.1))
      (λ x. (omega arith, leaf_inside k len (rule g i).clause x))
      (brings i 0 (LeafFits k len (rule g i).clause) ⊥ (omega arith)
      (leaf_truth (rule g i).clause) (λ x y. absurd y)) w (leaves_from (omega arith) q)

  pub inner_from : (t : Tally) → Leaves k len g (length g) t → Sounds (InnerDone g len) t
  inner_from t q = from_same Real HasOne HasTwo (LeafDone g len (length g)) (InnerDone g len) t
      (λ j l d. d.1) (leaves_from (omega arith) q)

  -- one and two have what has trees of the empty word
  module _ (one two : ℕ) (nulls : 0 < len → (a A : ℕ) → s ≤ a → a ≤ s + len → In one A
      → Derives g A (part h.word a 0))
      (nulls₂ : 0 < len → (a A : ℕ) → s ≤ a → a ≤ s + len → In two A
      → TwoTrees g A (part h.word a 0)) where
    at_part : (P : ℕ → ℕ → Type 0) (a b c d : ℕ) → a ≡ c → b ≡ d → P a b → P c d
    at_part P a b c d e f p = subst (λ (x : ℕ). P x d) e (subst (λ (x : ℕ). P a x) f p)

    wide_from : (i : ℕ) → i < length g → (c : Clause) → (rule g i).clause ≡ c → (t u : Tally)
        → WholeSide one two k len (rule g i).left c t u → Sounds (WideDone g len (i + 1)) t
        → Sounds (WideDone g len i) u
    wide_from i b Clause.Empty e t u w f = subst (Sounds (WideDone g len i)) (sym w)
        (from_same Real HasOne HasTwo (WideDone g len (i + 1)) (WideDone g len i) t
        (wide_done_on g len i) f)
    wide_from i b (Clause.Atom a a') e t u w f = subst (Sounds (WideDone g len i)) (sym w)
        (from_same Real HasOne HasTwo (WideDone g len (i + 1)) (WideDone g len i) t
        (wide_done_on g len i) f)
    wide_from i b (Clause.Unary B m) e t u w f =
        from_took Real HasOne HasTwo (WideDone g len (i + 1)) (WideDone g len i) i 0
        (rule g i).left t u
        (wide_new g len i 0 (Clause.Unary B m) e (λ x. x)) (wide_done_on g len i)
        (λ x. inr (omega arith, subst (λ (y : Clause). AtEnd len y 0) (sym e) refl))
        (brings i 0 (In t.one B × UnaryBy k m) (In t.two B) b
        (λ x. subst (λ (y : Clause). Fits (Truth g h) (by_tokens h s len) s len y 0) (sym e)
        (f.one B x.0, (marked.unary m).0 x.1, refl))
        (λ x y. subst (λ (z : Clause). Below (Truth₂ g h) s len z 0) (sym e)
        (f.two B y)))
        w f
    wide_from i b (Clause.Binary B C m) e t u (alone z w) f =
        from_took Real HasOne HasTwo (WideDone g len (i + 1)) (WideDone g len i) i 0
        (rule g i).left t u
        (wide_new g len i 0 (Clause.Binary B C m) e (λ x. omega (arith, x.0)))
        (wide_done_on g len i) (λ x. inr
        (omega arith, subst (λ (y : Clause). AtEnd len y 0) (sym e) (inl refl)))
        (brings i 0 (In t.one B × In t.one C) (In t.two B ⊎ In t.two C) b
        (λ x. subst (λ (y : Clause). Fits (Truth g h) (by_tokens h s len) s len y 0)
        (sym e) (
          omega arith,
          at_part (λ (a b : ℕ). Derives g B
              (part h.word a b)) s len s 0 refl z (f.one B x.0),
          at_part
              (λ (a b : ℕ). Derives g C (part h.word a b)) s len (s + 0)
              (len - 0) (omega arith) (omega arith) (f.one C x.1),
          (marked.binary m 0 (omega arith)).0
              (edge_mark k len m 0 (λ p q. omega arith)),
        ))
        (λ x y. subst (λ (q : Clause). Below
        (Truth₂ g h) s len q 0) (sym e)
        (⊎_elim (λ q. inl (at_part (λ (a b : ℕ).
        TwoTrees g B (part h.word a b)) s
        len s 0 refl z (f.two B q)))
        (λ q. inr (at_part (λ (a
        b : ℕ). TwoTrees g C
        (part h.word a
        b)) s len (s
        + 0) (len
        - 0) (omega arith) (omega arith) (f.two C q))) y)))
        w f
    wide_from i b (Clause.Binary B C m) e t u (both z v w w') f = last
      where
        mid : Sounds (HalfDone g len i) v
        mid =
            from_took Real HasOne HasTwo (WideDone g len (i + 1)) (HalfDone g len i) i 0
            (rule g i).left t v
            (wide_new g len i 0 (Clause.Binary B C m) e (λ x. omega (arith, x.0))) (λ j l d. inl d)
            (λ x. inr (refl, refl))
            (brings i 0 (In one B × In t.one C) (In two B ⊎ In t.two C) b
            (λ x. subst (λ (y : Clause). Fits (Truth g h) (by_tokens h s len) s len y 0) (sym e) (
              omega arith,
              nulls z s B (omega arith) (omega arith) x.0,
              at_part
                  (λ (a b : ℕ). Derives g C (part h.word a b)) s len (s + 0) (len - 0)
                  (omega arith) (omega arith) (f.one C x.1),
              (marked.binary m 0 (omega arith)
                  ).0 (edge_mark k len m 0 (λ p q. omega arith)),
            ))
            (λ x y. subst (λ (q : Clause). Below (Truth₂ g h) s len q 0) (sym e)
            (⊎_elim (λ q. inl (nulls₂ z s B (omega arith) (omega arith) q))
            (λ q. inr (at_part (λ (a b : ℕ). TwoTrees g C
            (part h.word a b)) s len (s + 0) (len - 0) (omega arith)
            (omega arith) (f.two C q))) y)))
            w f

        half_new : HalfDone g len i i len → ⊥
        half_new d = ⊎_elim (wide_new g len i len (Clause.Binary B C m) e
            (λ x. omega (arith, x.1))) (λ x. omega (arith, x.1)) d

        half_on : (j l : ℕ) → HalfDone g len i j l → WideDone g len i j l
        half_on j l d = ⊎_elim (wide_done_on g len i j l)
            (λ x. inr (
              omega (arith, x.0),
              subst (λ (y : ℕ). AtEnd len (rule g y).clause l)
                  (sym x.0) (subst (λ (y : Clause). AtEnd len y l) (sym e) (inl x.1)),
            )) d

        last : Sounds (WideDone g len i) u
        last =
            from_took Real HasOne HasTwo (HalfDone g len i) (WideDone g len i) i len
            (rule g i).left v u
            half_new half_on (λ x. inr (
              omega arith,
              subst (λ (y : Clause). AtEnd len y len) (sym e)
                  (inr refl),
            )) (brings i len (In v.one B × In one C) (In v.two B ⊎ In two C) b
            (λ x. subst (λ (y : Clause). Fits (Truth g h) (by_tokens h s len) s len y len) (sym e) (
              omega arith,
              mid.one B x.0,
              at_part (λ (a b : ℕ). Derives g C (part h.word a b))
                  (s + len) 0 (s + len) (len - len) refl (omega arith)
                  (nulls z (s + len) C (omega arith) (omega arith) x.1),
              (marked.binary m len
                  (omega arith)).0 (edge_mark k len m len (λ p q. omega arith)),
            ))
            (λ x y. subst (λ (q : Clause). Below (Truth₂ g h) s len q len) (sym e)
            (⊎_elim (λ q. inl (mid.two B q))
            (λ q. inr (at_part (λ (a b : ℕ). TwoTrees g C
            (part h.word a b)) (s + len) 0 (s + len) (len - len) refl
            (omega arith) (nulls₂ z (s + len) C (omega arith)
            (omega arith) q))) y)))
            w' mid

    pass_from : (t : Tally) → Sounds (InnerDone g len) t → {i : ℕ} {u : Tally}
        → Pass one two k len g t i u → Sounds (WideDone g len i) u
    pass_from t f pass_none = from_same Real HasOne HasTwo (InnerDone g len)
        (WideDone g len (length g)) t (λ j l d. inl d) f
    pass_from t f {i} (pass_more {u = u} {v = v} q w) =
        wide_from i (pass_within q) (rule g i).clause refl u v w (pass_from t f q)

    pub passes_from : (b : Tally) → Sounds (InnerDone g len) b → {t : Tally}
        → Passes one two k len g b t → ((A : ℕ) → In t.one A → HasOne A)
        × ((A : ℕ) → In t.two A → HasTwo A)
    passes_from b f passes_none = (f.one, f.two)
    passes_from b f (passes_more {t = t} {u = u} q w) =
        let x = passes_from b f q in
        let y = pass_from (resumed b t)
        (from_sets Real HasOne HasTwo (InnerDone g len) b t f x.0 x.1) w in
        (y.one, y.two)
