-- When a pass over the rules adds nothing, the tries over a span have found all that stands over
-- it.
use mathlib.Core.Path.{◌≡◌, refl, sym, ap, ◌∙◌, subst}
use mathlib.Core.Logic.{◌⊎◌, inl, inr, ⊎_elim}
use mathlib.Core.List.{List}
use Prim.Native.Nat.{ℕ, ◌+◌, ◌-◌, ◌≤◌, ◌<◌}
use native.Mathlib.Omega.{arith}
use lib.ListN.{length}
use Rattle.sets.specs.Sets.{In}
use Rattle.grammar.specs.declared.Clause.{Clause}
use Rattle.grammar.specs.Trees.{Rules}
use Rattle.grammar.specs.SpanSheet.{first_word, second_word}
use Rattle.marks.specs.declared.SpanMarks.{SpanMarks}
use Rattle.joins.specs.declared.Tally.{Tally}
use Rattle.tables.specs.Tables.{One, Two, by_marks, Fits, Stand, Below, Again, rule}
use Rattle.tables.specs.Tables.Again.{apart, below}
use Rattle.joins.specs.Passes.{no_tally, LeafFits, Leaves, leaves_none, leaves_more, alone}
use Rattle.joins.specs.Passes.{both, WholeSide, Pass, pass_none, pass_more, resumed}
use Rattle.joins.specs.Passes.{Saturated}
use Rattle.joins.proofs.TallyLaws.{Done, StandingChoices, All, all_none, all_same, all_sets}
use Rattle.joins.proofs.TallyLaws.{all_took, Still, still_same, still_took}
use Rattle.joins.proofs.PassLaws.{Inside, AtEnd, inside_or_edge, InnerDone, LeafDone}
use Rattle.joins.proofs.PassLaws.{WideDone, HalfDone, below_or_at, after_or_at}
use Rattle.joins.proofs.PassLaws.{passes_one, passes_two}

-- the words ws, after the span's pair is written
module _ (ws : List ℕ) (g : Rules) (n s len : ℕ) (k : SpanMarks) where
  abbrev Held : StandingChoices
  Held A j l = Stand (One ws n) g (by_marks k len) s len A j l

  abbrev Doubled : Done
  Doubled j l = Below (Two ws n) s len (rule g j).clause l

  -- ---- the inner choices

  leaf_at_0 : len < 2 → (c : Clause) (l : ℕ) → Inside len c l
      → Fits (One ws n) (by_marks k len) s len c l → l ≡ 0
  leaf_at_0 h Clause.Empty l d q = q.1
  leaf_at_0 h (Clause.Atom a a') l d q = q.1
  leaf_at_0 h (Clause.Unary B m) l d q = absurd d
  leaf_at_0 h (Clause.Binary B C m) l d q = omega (arith, d.0, d.1)

  leaf_fits : len < 2 → (c : Clause) → Inside len c 0 → Fits (One ws n) (by_marks k len) s len c 0
      → LeafFits k len c
  leaf_fits h Clause.Empty d q = q.0
  leaf_fits h (Clause.Atom a a') d q = (q.0, q.2)
  leaf_fits h (Clause.Unary B m) d q = d
  leaf_fits h (Clause.Binary B C m) d q = absurd (omega (arith, d.0))

  leaf_below : (c : Clause) → Below (Two ws n) s len c 0 → LeafFits k len c → ⊥
  leaf_below Clause.Empty b q = b
  leaf_below (Clause.Atom a a') b q = b
  leaf_below (Clause.Unary B m) b q = q
  leaf_below (Clause.Binary B C m) b q = q

  leaves_all : len < 2 → {i : ℕ} {t : Tally} → Leaves k len g i t
      → All Held Doubled (LeafDone g len i) t
  leaves_all h leaves_none =
      all_none Held Doubled no_tally (LeafDone g len 0) (λ A j l d c. omega (arith, d.0))
  leaves_all h (leaves_more {i = i} {t = t} {u = u} q w) =
      all_took Held Doubled (LeafDone g len i) (LeafDone g len (i + 1)) i 0 (rule g i).left t u
      (λ A j l d c. ⊎_elim (λ x. inl (x, d.1))
      (λ x. inr (x, leaf_at_0 h (rule g j).clause l d.1 c.fits))
      (below_or_at i j d.0)) (λ A d c.
      (sym c.left, leaf_fits h (rule g i).clause d.1 c.fits))
      (leaf_below (rule g i).clause) w (leaves_all h q)

  inner_all : len < 2 → (t : Tally) → Leaves k len g (length g) t
      → All Held Doubled (InnerDone g len) t
  inner_all h t q = all_same Held Doubled (LeafDone g len (length g)) (InnerDone g len) t
      (λ A j l d c. (c.within, d)) (leaves_all h q)

  -- ---- the choices with the whole span on one side

  -- ws has the pair f, p of the span, and one, two of the empty word
  module _ (f p one two : ℕ) (own : first_word ws n s len ≡ f) (own₂ : second_word ws n s len ≡ p)
      (empty : 0 < len → (a : ℕ) → a ≤ s + len → first_word ws n a 0 ≡ one)
      (empty₂ : 0 < len → (a : ℕ) → a ≤ s + len → second_word ws n a 0 ≡ two) where
    abbrev Stills : Done → Tally → Type 0
    Stills D t = Still Held Doubled f p D t

    -- a word that is read, of the span or of the empty word, is what the tally or the pair has
    word_in : (F : List ℕ → ℕ → ℕ → ℕ → ℕ) (a b c d w x B : ℕ) → F ws n c d ≡ w → a ≡ c → b ≡ d
        → x ≡ w → In (F ws n a b) B → In x B
    word_in F a b c d w x B e ea eb ex m = subst (λ (z : ℕ). In z B)
        (ap (λ (z : ℕ). F ws n z b) ea ∙ ap (λ (z : ℕ). F ws n c z) eb ∙ e ∙ sym ex) m

    wide_to : (i : ℕ) (c : Clause) → (rule g i).clause ≡ c → (l₀ : ℕ)
        → ((l : ℕ) → AtEnd len c l → l ≡ l₀) → (A j l : ℕ) → WideDone g len i j l → Held A j l
        → WideDone g len (i + 1) j l ⊎ ((j ≡ i) × (l ≡ l₀))
    wide_to i c e l₀ only A j l d h =
        ⊎_elim (λ x. inl (inl x))
        (λ x. ⊎_elim (λ y. inl (inr (y, x.1)))
        (λ y. inr (
          y,
          only l (subst (λ (z : Clause). AtEnd len z l) e
              (subst (λ (z : ℕ). AtEnd len (rule g z).clause l) y x.1)),
        ))
        (after_or_at i j x.0)) d

    wide_skip : (i : ℕ) (c : Clause) → (rule g i).clause ≡ c → ((l : ℕ) → AtEnd len c l → ⊥)
        → (A j l : ℕ) → WideDone g len i j l → Held A j l → WideDone g len (i + 1) j l
    wide_skip i c e non A j l d h =
        ⊎_elim inl (λ x. ⊎_elim (λ y. inr (y, x.1))
        (λ y. absurd (non l (subst (λ (z : Clause). AtEnd len z l) e
        (subst (λ (z : ℕ). AtEnd len (rule g z).clause l) y x.1))))
        (after_or_at i j x.0)) d

    wide_still : (i : ℕ) (c : Clause) → (rule g i).clause ≡ c → (t u : Tally)
        → WholeSide one two k len (rule g i).left c t u → Stills (WideDone g len (i + 1)) t
        → Stills (WideDone g len i) u
    wide_still i Clause.Empty e t u w h = subst (Stills (WideDone g len i)) (sym w)
        (still_same Held Doubled f p (WideDone g len (i + 1)) (WideDone g len i) t
        (wide_skip i Clause.Empty e (λ l x. x)) h)
    wide_still i (Clause.Atom a a') e t u w h = subst (Stills (WideDone g len i)) (sym w)
        (still_same Held Doubled f p (WideDone g len (i + 1)) (WideDone g len i) t
        (wide_skip i (Clause.Atom a a') e (λ l x. x)) h)
    wide_still i (Clause.Unary B m) e t u w h =
        still_took Held Doubled f p (WideDone g len (i + 1)) (WideDone g len i) i 0 (rule g i).left
        t u (wide_to i (Clause.Unary B m) e 0 (λ l x. x))
        (λ x A d c. let q = subst (λ (z : Clause). Fits (One ws n) (by_marks k len) s len z 0) e
        c.fits in (
          sym c.left,
          (
            word_in first_word s len s len f t.one B own refl refl x
                q.0,
            q.1,
          ),
        )) (λ x b q. let y = subst
        (λ (z : Clause). Below (Two ws n) s len z 0) e b in
        word_in second_word s len s len p t.two B own₂ refl refl x y)
        w h
    wide_still i (Clause.Binary B C m) e t u (alone z w) h =
        still_took Held Doubled f p (WideDone g len (i + 1)) (WideDone g len i) i 0 (rule g i).left
        t u (wide_to i (Clause.Binary B C m) e 0 (λ l x. ⊎_elim (λ y. y) (λ y. y ∙ z) x))
        (λ x A d c.
        let q = subst (λ (z : Clause). Fits (One ws n) (by_marks k len) s len z 0) e c.fits in (
          sym c.left,
          (
            word_in first_word s 0 s len f t.one B own refl (sym z) x q.1,
            word_in
                first_word (s + 0) (len - 0) s len f t.one C own (omega arith) (omega arith) x
                q.2,
          ),
        )) (λ x b q.
        ⊎_elim (λ y. inl (word_in second_word s 0 s len p t.two B own₂ refl (sym z) x y))
        (λ y. inr (word_in second_word (s + 0) (len - 0) s len p t.two C own₂ (omega arith)
        (omega arith) x y)) (subst (λ (z : Clause). Below (Two ws n) s len z 0) e b))
        w h
    wide_still i (Clause.Binary B C m) e t u (both z v w w') h =
        still_took Held Doubled f p (HalfDone g len i) (WideDone g len i) i len (rule g i).left v u
        to_half (λ x A d c.
        let q = subst (λ (z : Clause). Fits (One ws n) (by_marks k len) s len z len) e
        c.fits in (
          sym c.left,
          (
            word_in first_word s len s len f v.one B own refl refl x q.1,
            word_in
                first_word (s + len) (len - len) (s + len) 0 one one C
                (empty z (s + len) (omega arith))
                refl (omega arith) refl q.2,
          ),
        )) (λ x b q.
        ⊎_elim (λ y. inl (word_in second_word s len s len p v.two B own₂ refl refl x y))
        (λ y. inr (word_in second_word (s + len) (len - len) (s + len) 0 two two C
        (empty₂ z (s + len) (omega arith)) refl (omega arith) refl y))
        (subst (λ (z : Clause). Below (Two ws n) s len z len) e b))
        w' mid
      where
        at_edge : (j l : ℕ) → j ≡ i → AtEnd len (rule g j).clause l → (l ≡ 0) ⊎ (l ≡ len)
        at_edge j l y x = subst (λ (z : Clause). AtEnd len z l) e
            (subst (λ (z : ℕ). AtEnd len (rule g z).clause l) y x)

        to_half : (A j l : ℕ) → WideDone g len i j l → Held A j l
            → HalfDone g len i j l ⊎ ((j ≡ i) × (l ≡ len))
        to_half A j l d c =
            ⊎_elim (λ x. inl (inl (inl x)))
            (λ x. ⊎_elim (λ y. inl (inl (inr (y, x.1))))
            (λ y. ⊎_elim (λ q. inl (inr (y, q))) (λ q. inr (y, q)) (at_edge j l y x.1))
            (after_or_at i j x.0)) d

        mid : Stills (HalfDone g len i) v
        mid =
            still_took Held Doubled f p (WideDone g len (i + 1)) (HalfDone g len i) i 0
            (rule g i).left t v (λ A j l d c. d) (λ x A d c.
            let q = subst (λ (z : Clause). Fits (One ws n) (by_marks k len) s len z 0) e
            c.fits in (
              sym c.left,
              (
                word_in first_word s 0 s 0 one one B (empty z s (omega arith)) refl refl
                    refl q.1,
                word_in first_word (s + 0) (len - 0) s len f t.one C own
                    (omega arith) (omega arith) x q.2,
              ),
            )) (λ x b q.
            ⊎_elim (λ y. inl (word_in second_word s 0 s 0 two two B (empty₂ z s (omega arith)) refl
            refl refl y)) (λ y. inr (word_in second_word (s + 0) (len - 0) s len p t.two C
            own₂ (omega arith) (omega arith) x y))
            (subst (λ (z : Clause). Below (Two ws n) s len z 0) e b))
            w h

    pass_still : (t : Tally) → Stills (InnerDone g len) t → {i : ℕ} {u : Tally}
        → Pass one two k len g t i u → Stills (WideDone g len i) u
    pass_still t h pass_none =
        still_same Held Doubled f p (InnerDone g len) (WideDone g len (length g)) t
        (λ A j l d c. ⊎_elim (λ x. x) (λ x. absurd (let y = c.within in omega (arith, x.0)))
        d) h
    pass_still t h {i} (pass_more {u = u} {v = v} q w) =
        wide_still i (rule g i).clause refl u v w (pass_still t h q)

    -- so what the last pass of all says holds of the words that are written
    module _ (b t : Tally) (short : len < 2) (leaves : Leaves k len g (length g) b)
        (sat : Saturated one two k len g b t) (is_one : t.one ≡ f) (is-two : t.two ≡ p) where
      ended : All Held Doubled (WideDone g len 0) sat.last
      ended = (pass_still (resumed b t) (record {
        one_grows = omega arith;
        two_grows = omega arith;
        all = λ x y. all_sets Held Doubled (InnerDone g len) b t (passes_one sat.passes)
            (passes_two sat.passes) (inner_all short b leaves);
      }) sat.passed).all (sat.same_one ∙ is_one) (sat.same_two ∙ is-two)

      done : (A i l : ℕ) → Held A i l → WideDone g len 0 i l
      done A i l c = ⊎_elim inl (λ x. inr (omega arith, x))
          (inside_or_edge (One ws n) (by_marks k len) s len (rule g i).clause l c.fits)

      to_first : (A : ℕ) → In sat.last.one A → One ws n s len A
      to_first A m = subst (λ (z : ℕ). In z A) (sat.same_one ∙ is_one ∙ sym own) m

      to_second : (A : ℕ) → In sat.last.two A → Two ws n s len A
      to_second A m = subst (λ (z : ℕ). In z A) (sat.same_two ∙ is-two ∙ sym own₂) m

      pub each_found : (A i l : ℕ) → Stand (One ws n) g (by_marks k len) s len A i l
          → One ws n s len A
      each_found A i l c = to_first A (ended.one A i l (done A i l c) c)

      pub again_found : (A : ℕ) → Again (One ws n) (Two ws n) g (by_marks k len) s len A
          → Two ws n s len A
      again_found A (apart i l j m c d r) =
          to_second A (ended.apart A i l j m (done A i l c) (done A j m d) c d r)
      again_found A (below i l c x) = to_second A (ended.below A i l (done A i l c) c x)
