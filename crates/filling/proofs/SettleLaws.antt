-- A span whose pair is what follows, by links, from what stands by two shorter parts is settled.
use mathlib.Core.Path.{◌≡◌, refl, sym, ap, ◌∙◌, subst, subst₂}
use mathlib.Core.List.{List}
use mathlib.Core.Logic.{◌⊎◌, inl, inr, ⊎_elim}
use Prim.Native.Nat.{ℕ, zero, suc, ◌+◌, ◌-◌, ◌*◌, ◌≤◌, ◌<◌}
use native.Mathlib.Omega.{arith}
use native.Mathlib.Decide.{ℕ_discrete, dec_lt}
use lib.ListN.{length, get_or}
use Rattle.joins.proofs.PassLaws.{edge_mark}
use Rattle.sets.specs.Sets.{In}
use Rattle.grammar.specs.declared.Clause.{Clause}
use Rattle.grammar.specs.Trees.{Rules, Derives, TwoTrees}
use Rattle.grammar.specs.Distinct.{Distinct}
use Rattle.grammar.specs.SpanSheet.{part, pair_at, first_word, second_word}
use Rattle.marks.specs.declared.SpanMarks.{SpanMarks}
use Rattle.marks.specs.Half.{Half}
use Rattle.marks.specs.Marked.{Marked, UnaryBy}
use Rattle.spans.specs.Changes.{WrotePair}
use Rattle.spans.proofs.Places.{pair_at_same, pair_at_empty}
use Rattle.tables.specs.Tables.{Table, One, Two, by_tokens, by_marks, Fits, Stand, Below, Again}
use Rattle.tables.specs.Tables.{rule}
use Rattle.tables.specs.Tables.Again.{apart, below}
use Rattle.tables.specs.Settled.{Settled, Ground}
use Rattle.tables.proofs.Soundness.{sound_stand, sound_again}
use Rattle.tables.proofs.Views.{Yields, marks_tokens, tokens_marks, stand_view, again_view}
use Rattle.cuts.specs.declared.Pair.{Pair}
use Rattle.cuts.specs.Counts as Counts
use Rattle.cuts.specs.Counts.More.{apart as two-choices, below as one-doubled}
use Rattle.cuts.specs.Cuts.{Parted, Splits}
use Rattle.cuts.specs.Closure.{Links, Follows, by_parts, by_link, Doubles, both_parts}
use Rattle.cuts.specs.Closure.{part_and_link, both_links, link_below, link_beside, Closure}
use Rattle.chains.specs.SpanLinks.{Over, Beside, LinkAt, span_links, left_of}

at_part : (P : ℕ → ℕ → Type 0) {a b c d : ℕ} → a ≡ c → b ≡ d → P a b → P c d
at_part P e f p = subst₂ P e f p

over_small : (k : SpanMarks) (one : ℕ) (c : Clause) (l B : ℕ) → Over (UnaryBy k) one c l B → l < 2
over_small k one Clause.Empty l B o = absurd o
over_small k one (Clause.Atom a b) l B o = absurd o
over_small k one (Clause.Unary C m) zero B o = omega arith
over_small k one (Clause.Unary C m) (suc l) B o = absurd o
over_small k one (Clause.Binary C D m) zero B o = omega arith
over_small k one (Clause.Binary C D m) (suc zero) B o = omega arith
over_small k one (Clause.Binary C D m) (suc (suc l)) B o = absurd o

left_same : (len l m : ℕ) → 0 < len → l < 2 → m < 2 → left_of l len ≡ left_of m len → l ≡ m
left_same len zero zero pos x y e = refl
left_same len zero (suc m) pos x y e = absurd (omega arith)
left_same len (suc l) zero pos x y e = absurd (omega arith)
left_same len (suc l) (suc m) pos x y e = omega arith

-- a link's choice is none over two shorter parts
left_edge : (len l m : ℕ) → 0 < l → l < len → l ≡ left_of m len → ⊥
left_edge len l zero x y e = omega arith
left_edge len l (suc m) x y e = omega arith

module _ (ws : List ℕ) (g : Rules) (n s len : ℕ) (k : SpanMarks) (p : Pair) (fit : s + len ≤ n)
    (long : 2 ≤ len) (sp : Splits ws n s len k g p) where
  abbrev links : Links
  links = span_links g (UnaryBy k) (get_or ws 0 0) (get_or ws 1 0)

  -- ---- what follows has trees

  -- in a half-known word that leaves to a clause at least what the marks do, where what the words
  -- have of the parts has trees
  module _ (h : Half) (distinct : Distinct g) (known : h.known ≤ length h.word)
      (kn : s + len ≤ h.known) (under : Yields (by_marks k len) (by_tokens h s len) len)
      (sound : (a b A : ℕ) → s ≤ a → a + b ≤ s + len → b < len → One ws n a b A
      → Derives g A (part h.word a b))
      (sound₂ : (a b A : ℕ) → s ≤ a → a + b ≤ s + len → b < len → Two ws n a b A
      → TwoTrees g A (part h.word a b)) where
    abbrev Truth : Table
    Truth a b A = Derives g A (part h.word a b)

    abbrev Truth₂ : Table
    Truth₂ a b A = TwoTrees g A (part h.word a b)

    nulls : (a A : ℕ) → s ≤ a → a ≤ s + len → In (get_or ws 0 0) A → Truth a 0 A
    nulls a A x y m = sound a 0 A x (omega arith) (omega arith)
        (subst (λ (q : ℕ). In (get_or ws (2 * q) 0) A) (sym (pair_at_empty n a)) m)

    nulls₂ : (a A : ℕ) → s ≤ a → a ≤ s + len → In (get_or ws 1 0) A → Truth₂ a 0 A
    nulls₂ a A x y m = sound₂ a 0 A x (omega arith) (omega arith)
        (subst (λ (q : ℕ). In (get_or ws (2 * q + 1) 0) A) (sym (pair_at_empty n a)) m)

    Real : ℕ → ℕ → ℕ → Type 0
    Real A i l = Stand Truth g (by_tokens h s len) s len A i l

    fits_over : (c : Clause) (l B : ℕ) → Over (UnaryBy k) (get_or ws 0 0) c l B → Truth s len B
        → Fits Truth (by_tokens h s len) s len c (left_of l len)
    fits_over Clause.Empty l B o d = absurd o
    fits_over (Clause.Atom a b) l B o d = absurd o
    fits_over (Clause.Unary C m) zero B o d =
        (subst (λ (x : ℕ). Truth s len x) o.0 d, under.unary m o.1, refl)
    fits_over (Clause.Unary C m) (suc l) B o d = absurd o
    fits_over (Clause.Binary C D m) zero B o d = (
      omega arith,
      nulls s C (omega arith) (omega arith) o.1,
      at_part (λ (a b : ℕ). Truth a b D) (let e : s ≡ s + 0 = omega arith in e)
          (let e : len ≡ len - 0 = omega arith in e) (subst (λ (x : ℕ). Truth s len x) o.0 d),
      under.binary m 0 (omega arith) (edge_mark k len m 0 (λ x y. omega arith)),
    )
    fits_over (Clause.Binary C D m) (suc zero) B o d = (
      omega arith,
      subst (λ (x : ℕ). Truth s len x) o.0 d,
      subst (λ (b : ℕ). Truth (s + len) b D) (let e : 0 ≡ len - len = omega arith in e)
          (nulls (s + len) D (omega arith) (omega arith) o.1),
      under.binary m len (omega arith) (edge_mark k len m len (λ x y. omega arith)),
    )
    fits_over (Clause.Binary C D m) (suc (suc l)) B o d = absurd o

    below_over : (c : Clause) (l B : ℕ) → Over (UnaryBy k) (get_or ws 0 0) c l B → Truth₂ s len B
        → Below Truth₂ s len c (left_of l len)
    below_over Clause.Empty l B o d = absurd o
    below_over (Clause.Atom a b) l B o d = absurd o
    below_over (Clause.Unary C m) zero B o d = subst (λ (x : ℕ). Truth₂ s len x) o.0 d
    below_over (Clause.Unary C m) (suc l) B o d = absurd o
    below_over (Clause.Binary C D m) zero B o d =
        inr (at_part (λ (a b : ℕ). Truth₂ a b D) (let e : s ≡ s + 0 = omega arith in e)
        (let e : len ≡ len - 0 = omega arith in e) (subst (λ (x : ℕ). Truth₂ s len x) o.0 d))
    below_over (Clause.Binary C D m) (suc zero) B o d =
        inl (subst (λ (x : ℕ). Truth₂ s len x) o.0 d)
    below_over (Clause.Binary C D m) (suc (suc l)) B o d = absurd o

    beside_over : (c : Clause) (l : ℕ) → Beside (get_or ws 1 0) c l
        → Below Truth₂ s len c (left_of l len)
    beside_over Clause.Empty l b = absurd b
    beside_over (Clause.Atom a b') l b = absurd b
    beside_over (Clause.Unary C m) l b = absurd b
    beside_over (Clause.Binary C D m) zero b = inl (nulls₂ s C (omega arith) (omega arith) b)
    beside_over (Clause.Binary C D m) (suc zero) b = inr
        (subst (λ (b : ℕ). Truth₂ (s + len) b D) (let e : 0 ≡ len - len = omega arith in e)
        (nulls₂ (s + len) D (omega arith) (omega arith) b))
    beside_over (Clause.Binary C D m) (suc (suc l)) b = absurd b

    wide_real : (A i l B : ℕ) → LinkAt g (UnaryBy k) (get_or ws 0 0) A i l B → Truth s len B
        → Real A i (left_of l len)
    unfolding Real
    wide_real A i l B x d = record {
      within = x.within;
      left = x.left;
      fits = fits_over
          (rule g i).clause l B x.over d;
    }

    part_fits : (l : ℕ) → 0 < l → l < len → (c : Clause)
        → Fits (One ws n) (by_marks k len) s len c l
        → Fits Truth (by_tokens h s len) s len c l
    part_fits l x y Clause.Empty q = absurd (omega (arith, q.1))
    part_fits l x y (Clause.Atom a b) q = absurd (omega (arith, q.1))
    part_fits l x y (Clause.Unary B m) q = absurd (omega (arith, q.2))
    part_fits l x y (Clause.Binary B C m) q = (
      omega arith,
      sound s l B (omega arith) (omega arith) y q.1,
      sound (s + l) (len - l) C (omega arith) (omega arith) (omega arith) q.2,
      under.binary m l (omega arith) q.3,
    )

    part_below : (l : ℕ) → 0 < l → l < len → (c : Clause)
        → Fits (One ws n) (by_marks k len) s len c l → Below (Two ws n) s len c l
        → Below Truth₂ s len c l
    part_below l x y Clause.Empty q b = b
    part_below l x y (Clause.Atom a b') q b = b
    part_below l x y (Clause.Unary B m) q b = absurd (omega (arith, q.2))
    part_below l x y (Clause.Binary B C m) q b =
        ⊎_elim (λ z. inl (sound₂ s l B (omega arith) (omega arith) y z))
        (λ z. inr (sound₂ (s + l) (len - l) C (omega arith) (omega arith) (omega arith) z)) b

    part_real : (A i l : ℕ) → Parted ws n s len k g A i l → Real A i l
    unfolding Real
    part_real A i l c = record {
      within = c.stand.within;
      left = c.stand.left;
      fits = part_fits
          l c.nonempty c.rest (rule g i).clause c.stand.fits;
    }

    real_one : (A i l : ℕ) → Real A i l → Truth s len A
    unfolding Real
    real_one A i l c = sound_stand Truth g h known s len kn (λ a b A x y m. m) A i l c

    real_two : (A : ℕ) → Again Truth Truth₂ g (by_tokens h s len) s len A → Truth₂ s len A
    real_two =
        sound_again Truth Truth₂ g h known distinct s len kn (λ a b A x y m. m) (λ a b A x y m. m)

    pub follows_true : {A : ℕ} → Follows links (In p.one) A → Truth s len A
    follows_true {A} (by_parts i) = let q = (sp.one A).0 i in
        real_one A q.rule q.cut (part_real A q.rule q.cut q.stands)
    follows_true {A} (by_link i l B x f) =
        real_one A i (left_of l len) (wide_real A i l B x (follows_true f))

    more_true : (A : ℕ) → Counts.More (Parted ws n s len k g)
        (λ i l. Below (Two ws n) s len (rule g i).clause l) A → Truth₂ s len A
    unfolding Real
    more_true A (two-choices i l j m x y d) =
        real_two A (apart i l j m (part_real A i l x) (part_real A j m y) d)
    more_true A (one-doubled i l x b) = real_two A
        (below i l (part_real A i l x) (part_below l x.nonempty x.rest (rule g i).clause
        x.stand.fits b))

    pub doubles_true : {A : ℕ} → Doubles links (In p.one) (In p.two) A → Truth₂ s len A
    unfolding Real
    doubles_true {A} (both_parts i) = more_true A ((sp.two A).0 i)
    doubles_true {A} (part_and_link i l B m x f) =
        let q = (sp.one A).0 m in
        real_two A (apart q.rule q.cut i (left_of l len)
        (part_real A q.rule q.cut q.stands) (wide_real A i l B x (follows_true f))
        (λ e. left_edge len q.cut l q.stands.nonempty q.stands.rest e.1))
    doubles_true {A} (both_links i l B j m C x f y e d) =
        real_two A (apart i (left_of l len) j (left_of m len) (wide_real A i l B x (follows_true f))
        (wide_real A j m C y (follows_true e))
        (λ z. d (
          z.0,
          left_same len l m (omega arith)
              (over_small k (get_or ws 0 0) (rule g i).clause l B x.over)
              (over_small k (get_or ws 0 0) (rule g j).clause m C y.over) z.1,
        )))
    doubles_true {A} (link_below i l B x f d) =
        real_two A (below i (left_of l len) (wide_real A i l B x (follows_true f))
        (below_over (rule g i).clause l B x.over (doubles_true d)))
    doubles_true {A} (link_beside i l B x f b) =
        real_two A (below i (left_of l len) (wide_real A i l B x (follows_true f))
        (beside_over (rule g i).clause l b))

  -- ---- all that stands follows

  module _ (ws' : List ℕ) (t : Pair) (cl : Closure links p t)
      (w : WrotePair ws ws' (pair_at n s len) t.one t.two) where
    other : (a b : ℕ) → b < len → a + b ≤ s + len → pair_at n a b ≡ pair_at n s len → ⊥
    other a b x y e = let z = pair_at_same n a b s len (omega arith) fit e in omega (arith, z.0)

    first_as : (a b : ℕ) → b < len → a + b ≤ s + len → first_word ws' n a b ≡ first_word ws n a b
    first_as a b x y =
        w.kept.rest (2 * pair_at n a b) (λ e. other a b x y (omega arith)) (omega arith)

    second_as : (a b : ℕ) → b < len → a + b ≤ s + len → second_word ws' n a b ≡ second_word ws n a b
    second_as a b x y =
        w.kept.rest (2 * pair_at n a b + 1) (omega arith) (λ e. other a b x y (omega arith))

    first_empty : (a : ℕ) → a ≤ s + len → first_word ws' n a 0 ≡ get_or ws 0 0
    first_empty a x = first_as a 0 (omega arith) (omega arith)
        ∙ ap (λ (q : ℕ). get_or ws (2 * q) 0) (pair_at_empty n a)

    second_empty : (a : ℕ) → a ≤ s + len → second_word ws' n a 0 ≡ get_or ws 1 0
    second_empty a x = second_as a 0 (omega arith) (omega arith)
        ∙ ap (λ (q : ℕ). get_or ws (2 * q + 1) 0) (pair_at_empty n a)

    to : {x y : ℕ} (A : ℕ) → x ≡ y → In x A → In y A
    to A e i = subst (λ (z : ℕ). In z A) e i

    parted_fits : (l : ℕ) → 0 < l → l < len → (c : Clause)
        → Fits (One ws' n) (by_marks k len) s len c l → Fits (One ws n) (by_marks k len) s len c l
    parted_fits l x y Clause.Empty q = absurd (omega (arith, q.1))
    parted_fits l x y (Clause.Atom a b) q = absurd (omega (arith, q.1))
    parted_fits l x y (Clause.Unary B m) q = absurd (omega (arith, q.2))
    parted_fits l x y (Clause.Binary B C m) q = (
      q.0,
      to B (first_as s l y (omega arith)) q.1,
      to C
          (first_as (s + l) (len - l) (omega arith) (omega arith)) q.2,
      q.3,
    )

    parted_below : (l : ℕ) → 0 < l → l < len → (c : Clause)
        → Fits (One ws' n) (by_marks k len) s len c l → Below (Two ws' n) s len c l
        → Below (Two ws n) s len c l
    parted_below l x y Clause.Empty q b = b
    parted_below l x y (Clause.Atom a b') q b = b
    parted_below l x y (Clause.Unary B m) q b = absurd (omega (arith, q.2))
    parted_below l x y (Clause.Binary B C m) q b = ⊎_elim
        (λ z. inl (to B (second_as s l y (omega arith)) z))
        (λ z. inr (to C (second_as (s + l) (len - l) (omega arith) (omega arith)) z)) b

    parted : (A i l : ℕ) → Stand (One ws' n) g (by_marks k len) s len A i l → 0 < l → l < len
        → Parted ws n s len k g A i l
    parted A i l c x y = record {
      nonempty = x;
      rest = y;
      stand = record {
        within = c.within;
        left = c.left;
        fits = parted_fits l x y (rule g i).clause c.fits;
      };
    }

    -- a choice over the whole span, seen as a link
    record Wide (c : Clause) (l : ℕ) : Type 0 where
      pub side : ℕ
      pub over : ℕ
      pub place : left_of side len ≡ l
      pub link : Over (UnaryBy k) (get_or ws 0 0) c side over
      pub has : In t.one over
      pub low : Below (Two ws' n) s len c l → In t.two over ⊎ Beside (get_or ws 1 0) c side

    wide : (c : Clause) (l : ℕ) → Fits (One ws' n) (by_marks k len) s len c l
        → (0 < l → l < len → ⊥)
        → Wide c l
    wide Clause.Empty l q out = absurd (omega (arith, q.0))
    wide (Clause.Atom a b) l q out = absurd (omega (arith, q.0))
    wide (Clause.Unary B m) l q out = record {
      side = 0;
      over = B;
      place = sym q.2;
      link = (refl, q.1);
      has = to B w.first q.0;
      low = λ b. inl (to B w.second b);
    }
    wide (Clause.Binary B C m) l q out = go (ℕ_discrete l 0)
      where
        go : Dec (l ≡ 0) → Wide (Clause.Binary B C m) l
        go (yes e) =
            let f : s + l ≡ s = omega arith in
            let d : len - l ≡ len = omega arith in
            record {
              side = 0;
              over = C;
              place = sym e;
              link = (refl, to B (ap (first_word ws' n s) e ∙ first_empty s (omega arith)) q.1);
              has = to C (ap (λ (x : ℕ). first_word ws' n x (len - l)) f ∙ ap (first_word ws' n s) d
                  ∙ w.first) q.2;
              low = λ b. ⊎_elim (λ z. inr (to B
                  (ap (second_word ws' n s) e ∙ second_empty s (omega arith)) z))
                  (λ z. inl (to C (ap (λ (x : ℕ). second_word ws' n x (len - l)) f
                  ∙ ap (second_word ws' n s) d ∙ w.second) z)) b;
            }
        go (no e) = whole (dec_lt l len)
          where
            whole : Dec (l < len) → Wide (Clause.Binary B C m) l
            whole (yes x) = absurd (out (omega arith) x)
            whole (no x) =
                let f : l ≡ len = omega (arith, q.0) in
                let d : len - l ≡ 0 = omega arith in
                record {
                  side = 1;
                  over = B;
                  place = sym f;
                  link = (
                    refl,
                    to C (ap (first_word ws' n (s + l)) d
                        ∙ first_empty (s + l) (omega arith)) q.2,
                  );
                  has = to B (ap (first_word ws' n s) f ∙ w.first) q.1;
                  low = λ b. ⊎_elim (λ z. inl (to B (ap (second_word ws' n s) f ∙ w.second) z))
                      (λ z. inr (to C (ap (second_word ws' n (s + l)) d
                      ∙ second_empty (s + l) (omega arith)) z)) b;
                }

    data Kind (A i l : ℕ) : Type 0 where
      inner : Parted ws n s len k g A i l → Kind A i l
      edge : Wide (rule g i).clause l → Kind A i l

    kind : (A i l : ℕ) → Stand (One ws' n) g (by_marks k len) s len A i l → Kind A i l
    kind A i l c = go (dec_lt 0 l) (dec_lt l len)
      where
        go : Dec (0 < l) → Dec (l < len) → Kind A i l
        go (yes x) (yes y) = inner (parted A i l c x y)
        go (yes x) (no y) = edge (wide (rule g i).clause l c.fits (λ a b. y b))
        go (no x) y = edge (wide (rule g i).clause l c.fits (λ a b. x a))

    linked : (A i l : ℕ) → Stand (One ws' n) g (by_marks k len) s len A i l
        → (v : Wide (rule g i).clause l)
        → LinkAt g (UnaryBy k) (get_or ws 0 0) A i v.side v.over
    linked A i l c v = record { within = c.within; left = c.left; over = v.link }

    follows : {l : ℕ} (i : ℕ) (v : Wide (rule g i).clause l)
        → Follows links (In p.one) v.over
    follows i v = (cl.one v.over).0 v.has

    pub each : (A i l : ℕ) → Stand (One ws' n) g (by_marks k len) s len A i l → One ws' n s len A
    each A i l c = to A (sym w.first) ((cl.one A).1 (go (kind A i l c)))
      where
        go : Kind A i l → Follows links (In p.one) A
        go (inner q) = by_parts ((sp.one A).1 (record { rule = i; cut = l; stands = q }))
        go (edge v) = by_link i v.side v.over (linked A i l c v) (follows i v)

    pub again : (A : ℕ) → Again (One ws' n) (Two ws' n) g (by_marks k len) s len A
        → Two ws' n s len A
    again A (apart i l j m c d o) =
        to A (sym w.second) ((cl.two A).1 (go (kind A i l c) (kind A j m d)))
      where
        go : Kind A i l → Kind A j m → Doubles links (In p.one) (In p.two) A
        go (inner q) (inner r) = both_parts ((sp.two A).1 (two-choices i l j m q r o))
        go (inner q) (edge v) = part_and_link j v.side v.over
            ((sp.one A).1 (record { rule = i; cut = l; stands = q })) (linked A j m d v)
            (follows j v)
        go (edge v) (inner r) = part_and_link i v.side v.over
            ((sp.one A).1 (record { rule = j; cut = m; stands = r })) (linked A i l c v)
            (follows i v)
        go (edge v) (edge u) =
            both_links i v.side v.over j u.side u.over (linked A i l c v) (follows i v)
            (linked A j m d u) (follows j u)
            (λ e. o (e.0, sym v.place ∙ ap (λ (x : ℕ). left_of x len) e.1 ∙ u.place))
    again A (below i l c b) = to A (sym w.second) ((cl.two A).1 (go (kind A i l c)))
      where
        go : Kind A i l → Doubles links (In p.one) (In p.two) A
        go (inner q) = both_parts ((sp.two A).1
            (one-doubled i l q (parted_below l q.nonempty q.rest (rule g i).clause c.fits
            b)))
        go (edge v) =
            ⊎_elim (λ z. link_below i v.side v.over (linked A i l c v) (follows i v)
            ((cl.two v.over).0 z)) (λ z. link_beside i v.side v.over (linked A i l c v)
            (follows i v) z) (v.low b)

-- the span is settled
pub closure_settled : (ws : List ℕ) (g : Rules) (h : Half) (n s len : ℕ) (k : SpanMarks) (p : Pair)
    → Distinct g → h.known ≤ length h.word → s + len ≤ n → 2 ≤ len → Marked h s len k
    → Ground ws g h n s len → Splits ws n s len k g p → (ws' : List ℕ) (t : Pair)
    → Closure (span_links g (UnaryBy k) (get_or ws 0 0) (get_or ws 1 0)) p t
    → WrotePair ws ws' (pair_at n s len) t.one t.two
    → Settled (One ws' n) (Two ws' n) g h s len
closure_settled ws g h n s len k p distinct known fit long marked ground sp ws' t cl w = record {
  derived = λ A kn m. follows_true ws g n s len k p fit long sp h distinct known kn under (sound kn)
      (sound₂ kn) ((cl.one A).0 (subst (λ (x : ℕ). In x A) w.first m));
  more = λ A kn m. doubles_true ws g n s len k p fit long sp h distinct known kn under (sound kn)
      (sound₂ kn) ((cl.two A).0 (subst (λ (x : ℕ). In x A) w.second m));
  each = λ A i l u c. each ws g n s len k p fit long sp ws' t cl w A i l
      (stand_view (One ws' n) g (by_tokens h s len) (by_marks k len) s len A i l over c);
  again = λ A u c. again ws g n s len k p fit long sp ws' t cl w A
      (again_view (One ws' n) (Two ws' n) g (by_tokens h s len) (by_marks k len) s len A over c);
}
  where
    under : Yields (by_marks k len) (by_tokens h s len) len
    under = marks_tokens h s len k marked

    over : Yields (by_tokens h s len) (by_marks k len) len
    over = tokens_marks h s len k marked

    sound : s + len ≤ h.known → (a b A : ℕ) → s ≤ a → a + b ≤ s + len → b < len → One ws n a b A
        → Derives g A (part h.word a b)
    sound kn a b A x y z m = (ground.parts a b x y z).derived A (omega arith) m

    sound₂ : s + len ≤ h.known → (a b A : ℕ) → s ≤ a → a + b ≤ s + len → b < len → Two ws n a b A
        → TwoTrees g A (part h.word a b)
    sound₂ kn a b A x y z m = (ground.parts a b x y z).more A (omega arith) m
