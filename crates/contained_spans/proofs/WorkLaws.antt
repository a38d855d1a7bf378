-- A span that is worked off, nonterminal by nonterminal; nothing is said of cycles.
use mathlib.Core.Path.{◌≡◌, refl, sym, ap, ◌∙◌, subst}
use mathlib.Core.Logic.{⊎_elim, ◌↔◌}
use mathlib.Core.List.{List}
use Prim.Native.Nat.{ℕ, ◌+◌, ◌*◌, ◌≤◌, ◌<◌}
use native.Mathlib.Omega.{arith}
use native.Mathlib.Decide.{dec_lt}
use lib.ListN.{length}
use Rattle.sets.specs.Sets.{In}
use Rattle.sets.proofs.Sets.{in_zero, insert_same, insert_keeps, insert_only}
use Rattle.grammar.specs.declared.Rule.{Rule}
use Rattle.grammar.specs.Layout.{Word}
use Rattle.grammar.specs.Trees.{Rules}
use Rattle.grammar.specs.Choices.{Choice}
use Rattle.grammar.specs.Content.{SmallRule}
use Rattle.grammar.specs.SpanSheet.{part, pairs, pair_at, SpanSheet}
use Rattle.grammar.proofs.ByKind.{choice_can, get_elem?_lt}
use Rattle.marks.specs.declared.Draft.{Draft}
use Rattle.marks.specs.declared.SpanMarks.{SpanMarks}
use Rattle.marks.specs.Marked.{Marked}
use Rattle.tables.proofs.Places.{there}
use Rattle.tables.specs.Tables.{One, by_marks, by_tokens, Stand, rule, Room}
use Rattle.tables.proofs.Views.{fits_le, lefts_le, stand_view, marks_tokens, tokens_marks}
use Rattle.choices.proofs.PickLaws.{whole, stand_choice, choice_stand}
use Rattle.contained_spans.specs.Reached.{Bit}
use Rattle.cuts.specs.Joining.{Joins}
use Rattle.contained_spans.specs.Joining.{ChoiceKids}
use Rattle.places.specs.Places.{Several}
use Rattle.cuts.proofs.Bits.{in_word}
use Rattle.contained_spans.specs.Counting.{CountTells, Noted, Spot}
use Rattle.contained_spans.specs.Spreading.{Known, Working, Spreads, Works}
use Rattle.contained_spans.proofs.HeldLaws.{kids_held, kid_held, sound_joins, kids_in}
use Rattle.contained_spans.proofs.HeldLaws.{kids_kept, kid_apart}
use Rattle.sets.specs.Insertion.{insert}

-- the rules are small
abbrev pub Smalls : Rules → Type 0
Smalls g = (i : ℕ) → i < length g → SmallRule (rule g i)

pub working_none : (g : Rules) (w : Word) (n s len : ℕ) (rs : List ℕ)
    → Working g w n s len rs rs 0 0
working_none g w n s len rs = record {
  long = refl;
  keeps = λ q B h. h;
  apart = λ a b B h o x. x;
  sound = λ x. x;
  tried = λ A i l h c. absurd (in_zero A h);
  mine = λ A h. absurd (in_zero A h);
  parts = λ A. (λ h. absurd (in_zero A h), λ h. absurd (in_zero A h.0));
}

-- the choices of A that stand
abbrev pub Spots : List ℕ → Rules → ℕ → ℕ → ℕ → SpanMarks → ℕ → Spot → Type 0
Spots ws g n s len k A p = Stand (One ws n) g (by_marks k len) s len A p.place p.left

module _ (g : Rules) (w : Word) (ws : List ℕ) (s len : ℕ) (k : SpanMarks) (small : Smalls g)
    (sheet : SpanSheet g w ws) (fit : s + len ≤ length w) (marked : Marked (whole w) s len k) where
  stand_is : (A i l : ℕ) → Stand (One ws (length w)) g (by_marks k len) s len A i l
      → Choice g A (part w s len) i l
  stand_is A i l c =
      stand_choice g w ws sheet s len fit small A i l
      (stand_view (One ws (length w)) g (by_marks k len) (by_tokens (whole w) s len) s len A i l
      (marks_tokens (whole w) s len k marked) c)

  is_stand : (A i l : ℕ) → Choice g A (part w s len) i l
      → Stand (One ws (length w)) g (by_marks k len) s len A i l
  is_stand A i l c =
      stand_view (One ws (length w)) g (by_tokens (whole w) s len) (by_marks k len) s len A i l
      (tokens_marks (whole w) s len k marked)
      (choice_stand g w ws sheet s len fit small A i l c)

  left_low : (A i l : ℕ) → Stand (One ws (length w)) g (by_marks k len) s len A i l → l ≤ len
  left_low A i l c = omega (
    arith,
    fits_le (One ws (length w)) (by_marks k len) s len
        (rule g i).clause l c.fits,
    lefts_le (rule g i).clause len,
  )

  several_more : (A r : ℕ) → CountTells (Spots ws g (length w) s len k A) r → 1 < r
      → Several g A (part w s len)
  several_more A r t h =
      let q = t.more h in
      record {
        place₁ = q.0.place;
        split₁ = q.0.left;
        place₂ = q.1.place;
        split₂ = q.1.left;
        choice₁ = stand_is A q.0.place q.0.left q.2;
        choice₂ = stand_is A q.1.place q.1.left q.3;
        differ = λ e. q.4 (λ i. record { place = e.0 i; left = e.1 i });
      }

  more_several : (A r : ℕ) → CountTells (Spots ws g (length w) s len k A) r
      → Several g A (part w s len) → 1 < r
  more_several A r t x = go (dec_lt 1 r)
    where
      go : Dec (1 < r) → 1 < r
      go (yes h) = h
      go (no h) =
          let e = t.once (omega arith) (record { place = x.place₁; left = x.split₁ })
          (record { place = x.place₂; left = x.split₂ })
          (is_stand A x.place₁ x.split₁ x.choice₁)
          (is_stand A x.place₂ x.split₂ x.choice₂) in
          absurd (x.differ (ap (λ (p : Spot). p.place) e, ap (λ (p : Spot). p.left) e))

  noted_parts : (done A r ps ps' : ℕ) → CountTells (Spots ws g (length w) s len k A) r
      → Noted ps A r ps' → ((X : ℕ) → In ps X ↔ (In done X × Several g X (part w s len)))
      → (X : ℕ) → In ps' X ↔ (In (insert done A) X × Several g X (part w s len))
  noted_parts done A r ps ps' t o f X = go (dec_lt 1 r)
    where
      S : ℕ → Type 0
      S Y = Several g Y (part w s len)

      go : Dec (1 < r) → In ps' X ↔ (In (insert done A) X × S X)
      go (yes h) = (
        λ i. ⊎_elim (λ y. let q = (f X).0 y in (insert_keeps done A q.0, q.1))
            (λ e. (
              subst (In (insert done A)) (sym e) (insert_same done A),
              subst S (sym e) (several_more A r t h),
            )) (insert_only ps A X (in_word (o.more h) i)),
        λ q. in_word (sym (o.more h)) (⊎_elim (λ y. insert_keeps ps A ((f X).1 (y, q.1)))
            (λ e. subst (In (insert ps A)) (sym e) (insert_same ps A))
            (insert_only done A X q.0)),
      )
      go (no h) =
          let z = o.less (omega arith) in (
            λ i. let q = (f X).0 (in_word z i) in (insert_keeps done A q.0, q.1),
            λ q. in_word (sym z) (⊎_elim (λ y. (f X).1 (y, q.1))
                (λ e. absurd (h (more_several A r t (subst S e q.1))))
                (insert_only done A X q.0)),
          )

  more_whole : (rs rs₁ rs₂ : List ℕ) (done A r ps ps' : ℕ)
      → Working g w (length w) s len rs rs₁ done ps
      → Bit rs₁ (length w) s len A → Joins (ChoiceKids ws g (length w) s len k A) rs₁ rs₂
      → CountTells (Spots ws g (length w) s len k A) r → Noted ps A r ps'
      → Working g w (length w) s len rs rs₂ (insert done A) ps'
  more_whole rs rs₁ rs₂ done A r ps ps' x b j t o = record {
    long = j.long ∙ x.long;
    keeps = λ q B h. j.keeps q B (x.keeps q B h);
    apart = λ a c B h y i.
        ⊎_elim (λ z. x.apart a c B h y z)
        (λ z. absurd (kid_apart (length w) s len (rule g z.0).clause z.1
        (pair_at (length w) a c) B a c fit (left_low A z.0 z.1 z.2) h y z.3 refl))
        (j.only (pair_at (length w) a c) B i);
    sound = λ z.
        let u = x.sound z in
        sound_joins g w (length w) u j
        (λ q B p. kid_held g w (length w) s len (rule g p.0).clause p.1 fit
        (left_low A p.0 p.1 p.2)
        (kids_held g w s len A fit (u.held s len A fit b) p.0 p.1
        (stand_is A p.0 p.1 p.2)) q B p.3);
    tried = λ X i l h c.
        ⊎_elim (λ y. kids_kept rs₁ rs₂ (length w) s len (rule g i).clause l j.keeps
        (x.tried X i l y c))
        (λ e. kids_in rs₂ (length w) s len (rule g i).clause l
        (λ q B y. j.all q B (
          i,
          l,
          is_stand A i l
              (subst (λ (Y : ℕ). Choice g Y (part w s len) i l) e c),
          y,
        )))
        (insert_only done A X h);
    mine = λ X h. j.keeps (pair_at (length w) s len) X
        (⊎_elim (λ y. x.mine X y) (λ e. subst (Bit rs₁ (length w) s len) (sym e) b)
        (insert_only done A X h));
    parts = noted_parts done A r ps ps' t o x.parts;
  }

-- one nonterminal more
pub working_more : (g : Rules) (w : Word) (ws : List ℕ) (n s len : ℕ) (k : SpanMarks) → length w ≡ n
    → Smalls g → SpanSheet g w ws → s + len ≤ n → Marked (record { word = w; known = n }) s len k
    → (rs rs₁ rs₂ : List ℕ) (done A r ps ps' : ℕ) → Working g w n s len rs rs₁ done ps
    → Bit rs₁ n s len A → Joins (ChoiceKids ws g n s len k A) rs₁ rs₂
    → CountTells (Spots ws g n s len k A) r → Noted ps A r ps'
    → Working g w n s len rs rs₂ (insert done A) ps'
working_more g w ws n s len k e small sheet =
    subst
    (λ (x : ℕ). s + len ≤ x → Marked (record { word = w; known = x }) s len k
    → (rs rs₁ rs₂ : List ℕ) (done A r ps ps' : ℕ) → Working g w x s len rs rs₁ done ps
    → Bit rs₁ x s len A → Joins (ChoiceKids ws g x s len k A) rs₁ rs₂
    → CountTells (Spots ws g x s len k A) r → Noted ps A r ps'
    → Working g w x s len rs rs₂ (insert done A) ps')
    e (more_whole g w ws s len k small sheet)

-- only nonterminals below 64 have choices
choice_small : (g : Rules) → Smalls g → (A : ℕ) (w : Word) (i l : ℕ) → Choice g A w i l → A < 64
choice_small g small A w i l c =
    let y = choice_can c in
    let h = get_elem?_lt g i y.1 in
    let e : y.0 ≡ rule g i = let a = y.1 in let b = there g i h in cc in
    omega (arith, (small i h).left, ap (λ (r : Rule). r.left) e, y.2)

-- all that the span has is tried
pub working_end : (g : Rules) (w : Word) (n s len : ℕ) (rs rs' : List ℕ) (done ps : ℕ) → Smalls g
    → Working g w n s len rs rs' done ps
    → ((A : ℕ) → A < 64 → Bit rs' n s len A → In done A) → Spreads g w n s len rs rs' ps
working_end g w n s len rs rs' done ps small x f = record {
  long = x.long;
  keeps = x.keeps;
  apart = x.apart;
  sound = x.sound;
  spread = λ A i l b c. x.tried A i l (f A (choice_small g small A (part w s len) i l c) b) c;
  parts = λ A. (
    λ i. let q = (x.parts A).0 i in (x.mine A q.0, q.1),
    λ q. (x.parts A).1 (
      f A (choice_small g small A (part w s len) q.1.place₁ q.1.split₁ q.1.choice₁)
          q.0,
      q.1,
    ),
  );
}

-- ---- of any sentence

pub works_none : (ws : List ℕ) (g : Rules) (n s len : ℕ) (k : SpanMarks) (rs : List ℕ)
    → Works ws g n s len k rs rs 0 0
works_none ws g n s len k rs =
    record { long = refl; working = λ w e x m. working_none g w n s len rs }

pub works_more : (ws : List ℕ) (g : Rules) (n s len : ℕ) (k : SpanMarks) → Smalls g → s + len ≤ n
    → (rs rs₁ rs₂ : List ℕ) (done A r ps ps' : ℕ)
    → Works ws g n s len k rs rs₁ done ps → Bit rs₁ n s len A
    → Joins (ChoiceKids ws g n s len k A) rs₁ rs₂ → CountTells (Spots ws g n s len k A) r
    → Noted ps A r ps' → Works ws g n s len k rs rs₂ (insert done A) ps'
works_more ws g n s len k small fit rs rs₁ rs₂ done A r ps ps' x b j t o = record {
  long = j.long ∙ x.long;
  working = λ w e y m. working_more g w ws n s len k e small y fit m rs rs₁ rs₂ done A r ps ps'
      (x.working w e y m) b j t o;
}

-- the words are enough for the span sheet
pub known_room : {ws : List ℕ} {g : Rules} {d : Draft 64} → Known ws g d → (s len : ℕ)
    → s + len ≤ d.count → Room ws d.count s len
known_room {ws} k s len fit = record {
  few = k.few;
  fits = fit;
  enough = subst (λ (n : ℕ). 2 * pairs n ≤ length ws) k.long k.sheet.enough;
}
