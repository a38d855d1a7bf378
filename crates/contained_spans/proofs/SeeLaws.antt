-- Laws of words of cuts: where a B clause stands, and what was put in already.
use mathlib.Core.Path.{◌≡◌, refl, sym, ap, ◌∙◌, subst, subst₂}
use mathlib.Core.Logic.{◌⊎◌, inl, inr, ⊎_elim, ◌↔◌}
use mathlib.Core.List.{List}
use Prim.Native.Nat.{ℕ, ◌+◌, ◌-◌, ◌*◌, ◌≤◌, ◌<◌}
use native.Mathlib.Omega.{arith}
use lib.Bits.{bit_and, bit_or, bit_xor}
use lib.ListN.{length, get_or, set, replicate, length-set, length-replicate}
use Rattle.sets.specs.Sets.{In}
use Rattle.sets.proofs.Sets.{in_zero, in_dec}
use Rattle.sets.proofs.Bits.{in_and}
use Rattle.grammar.specs.declared.BinaryMark.{BinaryMark}
use Rattle.grammar.specs.declared.Clause.TheVariants as Clause
use Rattle.grammar.specs.SpanSheet.{pair_at}
use Rattle.marks.specs.declared.SpanMarks.{SpanMarks}
use Rattle.tables.specs.Tables.{One, by_marks, Fits}
use Rattle.cuts.specs.declared.Masks.{Masks}
use Rattle.cuts.specs.Cuts.{mask_of, Masked}
use Rattle.cuts.specs.Joining.{Joins}
use Rattle.cuts.proofs.Bits.{in_and_three, in_word}
use Rattle.cuts.proofs.JoinLaws.{joins_then, joins_as, joins_or}
use Rattle.spans.specs.Changes.{Cleared}
use Rattle.cut_tables.specs.Tables.{CutTable}
use Rattle.cut_tables.proofs.TableLaws.{zeros}
use Rattle.contained_spans.specs.Reached.{Bit}
use Rattle.contained_spans.specs.Joining.{CutKids, Inner, Kid}
use Rattle.contained_spans.specs.Seeing.{MaskBy, HitsBy, Bounded, Unseen, SeenAt}
use Rattle.contained_spans.specs.Seeing.{SeenColumns}
use Rattle.contained_spans.proofs.JoinLaws.{in_less}

-- ---- where a B clause stands

pub mask-of : {k : SpanMarks} {s : ℕ} {w : Masks} → Masked k s w → (m : BinaryMark)
    → MaskBy k s m (mask_of w m)
mask-of x m = record { holds = x.holds m }

pub hits_made : (cs : List ℕ) (b e : ℕ) (m : BinaryMark) (s len : ℕ) (k : SpanMarks)
    (p q mask : ℕ) → p ≡ b → q ≡ e → MaskBy k s m mask
    → HitsBy cs b e m s len k (bit_and (bit_and (get_or cs p 0) (get_or cs (64 * (s + len) + q) 0))
    mask)
hits_made cs b e m s len k p q mask x y z = record {
  mask = mask;
  by = z;
  is = λ c. subst₂ (λ (i j : ℕ). In (bit_and (bit_and (get_or cs p 0)
      (get_or cs (64 * (s + len) + q) 0)) mask) c
      ↔ (In (get_or cs i 0) c × In (get_or cs (64 * (s + len) + j) 0) c × In mask c)) x y
      (in_and_three (get_or cs p 0) (get_or cs (64 * (s + len) + q) 0) mask c);
}

pub unseen_made : (sn : List ℕ) (p q st : ℕ) → p < length sn → q < length sn
    → Unseen sn (set (set sn p (bit_or (get_or sn p 0) st)) q
    (bit_or (get_or (set sn p (bit_or (get_or sn p 0) st)) q 0) st)) p q st
    (bit_and st (bit_xor st (bit_and (get_or sn p 0) (get_or sn q 0))))
unseen_made sn p q st x y = record {
  notes = joins_as (λ z c. ⊎_elim (λ h. (inl h.0, h.1)) (λ h. (inr h.0, h.1)))
      (λ z c h. ⊎_elim (λ i. inl (i, h.1)) (λ i. inr (i, h.1)) h.0)
      (joins_then (joins_or sn p st x) (joins_or (set sn p (bit_or (get_or sn p 0) st)) q st
      (omega (arith, y, length-set sn p (bit_or (get_or sn p 0) st)))));
  rest = λ c.
      let u = in_less st (bit_and (get_or sn p 0) (get_or sn q 0)) c in
      let v = in_and (get_or sn p 0) (get_or sn q 0) c in
      (λ i. ((u.0 i).0, λ h. (u.0 i).1 (v.1 h)), λ i. u.1 (i.0, λ h. i.1 (v.0 h)));
}

pub bounded : {ws cs : List ℕ} {n s : ℕ} → CutTable ws n s cs → Bounded n s cs
bounded t = record {
  long = t.columns.long;
  row = λ B c l i. ((t.row B c l).0 i).0;
  column = λ j C c p h l i. ((t.columns.column j C c p h l).0 i).0;
}

pub hits_inner : {cs : List ℕ} {n s len b e r : ℕ} {m : BinaryMark} {k : SpanMarks}
    → Bounded n s cs → b < 64 → e < 64 → 0 < len → s + len ≤ n → HitsBy cs b e m s len k r
    → Inner r s len
hits_inner {s = s} {len} {b} {e} t x y pos fit h c i =
    let q = (h.is c).0 i in
    (t.row b c x q.0, t.column (s + len) e c (omega arith) fit y q.1)

-- the cuts are those at which the clause stands
module _ {ws cs : List ℕ} {n s len b e r : ℕ} {m : BinaryMark} {k : SpanMarks} (few : n ≤ 64)
    (t : CutTable ws n s cs) (x : b < 64) (y : e < 64) (pos : 0 < len) (fit : s + len ≤ n)
    (h : HitsBy cs b e m s len k r) where
  pub hit_fits : (c : ℕ) → In r c → Fits (One ws n) (by_marks k len) s len (Clause.Binary b e m)
      (c - s)
  hit_fits c i =
      let q = (h.is c).0 i in
      let u = (t.row b c x).0 q.0 in
      let v = (t.columns.column (s + len) e c (omega arith) fit y).0 q.1 in
      let z : s + (c - s) ≡ c = omega (arith, u.0) in (
        omega (arith, u.0, v.0),
        u.2,
        subst₂ (λ (a d : ℕ). One ws n a d e) (sym z)
            (let f : s + len - c ≡ len - (c - s) = omega (arith, u.0, v.0) in f) v.1,
        (h.by.holds len (c - s) (omega (arith, u.0)) (omega (arith, u.0, v.0))
            (omega (arith, u.0, v.0))).0 (subst (In h.mask) (sym z) q.2),
      )

  pub fits_hit : (l : ℕ) → 0 < l → l < len
      → Fits (One ws n) (by_marks k len) s len (Clause.Binary b e m) l → In r (s + l)
  fits_hit l p o f =
      (h.is (s + l)).1 (
        (t.row b (s + l) x).1 (
          omega (arith, p),
          omega (arith, o, fit),
          subst (λ (d : ℕ). One ws n s d b) (let z : l ≡ s + l - s = omega arith in z) f.1,
        ),
        (t.columns.column (s + len) e (s + l) (omega arith) fit y).1 (
          omega (arith, o),
          subst (λ (d : ℕ). One ws n (s + l) d e)
              (let z : len - l ≡ s + len - (s + l) = omega arith in z) f.2,
        ),
        (h.by.holds len l p o (omega (arith, o, fit, few))).1 f.3,
      )

-- ---- what was seen

pub seen_columns_kept : {rs rs' sn : List ℕ} {n : ℕ}
    → ((q B : ℕ) → In (get_or rs q 0) B → In (get_or rs' q 0) B) → SeenColumns n rs sn
    → SeenColumns n rs' sn
seen_columns_kept f s = record {
  long = s.long;
  second = λ j C c p l i. f _ C (s.second j C c p l i);
}

pub seen_kept : {rs rs' sn : List ℕ} {n s : ℕ}
    → ((q B : ℕ) → In (get_or rs q 0) B → In (get_or rs' q 0) B) → SeenAt n s rs sn
    → SeenAt n s rs' sn
seen_kept f s = record {
  columns = seen_columns_kept f s.columns;
  first = λ B c l i. f _ B (s.first B c l i);
}

pub seen_joins : {P : ℕ → ℕ → Type 0} {rs rs' sn : List ℕ} {n s : ℕ} → Joins P rs rs'
    → SeenAt n s rs sn → SeenAt n s rs' sn
seen_joins j = seen_kept j.keeps

-- at first nothing is seen
pub seen_none : (n : ℕ) (rs : List ℕ) → SeenColumns n rs (replicate 4160 0)
seen_none n rs = record {
  long = length-replicate {A = ℕ} 4160 0;
  second = λ j C c p l i. absurd (in_zero c (in_word (zeros 4160 (64 * j + C)) i));
}

-- the row is begun anew
pub seen_cleared : {rs sn sn' : List ℕ} {n s : ℕ} → SeenColumns n rs sn → Cleared sn sn' 64
    → SeenAt n s rs sn'
seen_cleared v d = record {
  columns = record {
    long = d.past.long ∙ v.long;
    second = λ j C c p l i. v.second j C c p l
        (in_word (d.past.rest (64 * j + C) (omega arith)) i);
  };
  first = λ B c l i. absurd (in_zero c (in_word (d.zeros B l) i));
}

-- cuts are noted whose parts are in the words
pub seen_noted : {rs sn sn' : List ℕ} {n s len b e st r : ℕ} → b < 64 → e < 64 → 0 < len
    → ((c : ℕ) → In st c → Bit rs n s (c - s) b × Bit rs n c (s + len - c) e)
    → Unseen sn sn' b (64 * (s + len) + e) st r → SeenAt n s rs sn → SeenAt n s rs sn'
seen_noted {rs} {sn} {sn'} {n} {s} {len} {b} {e} {st} x y pos f u v = record {
  columns = record {
    long = u.notes.long ∙ v.columns.long;
    second = λ j C c p l i. ⊎_elim (λ z. v.columns.second j C c p l z)
        (λ z. here j C c p l z.0 z.1) (u.notes.only (64 * j + C) c i);
  };
  first = λ B c l i. ⊎_elim (λ z. v.first B c l z) (λ z. front B c l z.0 z.1)
      (u.notes.only B c i);
}
  where
    here : (j C c : ℕ) → 0 < j → C < 64
        → (64 * j + C ≡ b) ⊎ (64 * j + C ≡ 64 * (s + len) + e) → In st c → Bit rs n c (j - c) C
    here j C c p l (inl z) i = absurd (omega arith)
    here j C c p l (inr z) i = subst₂ (λ (d E : ℕ). Bit rs n c (d - c) E)
        (let q : s + len ≡ j = omega arith in q) (let q : e ≡ C = omega arith in q) (f c i).1

    front : (B c : ℕ) → B < 64 → (B ≡ b) ⊎ (B ≡ 64 * (s + len) + e) → In st c
        → Bit rs n s (c - s) B
    front B c l (inl z) i = subst (Bit rs n s (c - s)) (sym z) (f c i).0
    front B c l (inr z) i = absurd (omega arith)

-- what lies beneath at the cuts that were not seen is put in: then it is there at all cuts
module _ {rs rs' sn sn' : List ℕ} {n s len b e st r : ℕ} (m : BinaryMark) (x : b < 64) (y : e < 64)
    (pos : 0 < len) (inner : Inner st s len) (u : Unseen sn sn' b (64 * (s + len) + e) st r)
    (v : SeenAt n s rs sn) (j : Joins (CutKids n s len (Clause.Binary b e m) r) rs rs') where
  fresh_in : (c : ℕ) → In r c → (s < c) × (c < s + len)
      → Bit rs' n s (c - s) b × Bit rs' n c (s + len - c) e
  fresh_in c z w = (
    j.all (pair_at n s (c - s)) b (c, z, inl (refl, refl)),
    subst₂ (λ (a d : ℕ). Bit rs' n a d e) (let f : s + (c - s) ≡ c = omega (arith, w.0) in f)
        (let f : len - (c - s) ≡ s + len - c = omega (arith, w.0, w.1) in f)
        (j.all (pair_at n (s + (c - s)) (len - (c - s))) e (c, z, inr (refl, refl))),
  )

  there : (c : ℕ) → In st c → Dec (In (get_or sn b 0) c)
      → Dec (In (get_or sn (64 * (s + len) + e) 0) c)
      → Bit rs' n s (c - s) b × Bit rs' n c (s + len - c) e
  there c i (yes p) (yes q) = (
    j.keeps (pair_at n s (c - s)) b (v.first b c x p),
    j.keeps (pair_at n c (s + len - c)) e (v.columns.second (s + len) e c (omega arith) y q),
  )
  there c i (yes p) (no q) = fresh_in c ((u.rest c).1 (i, λ z. q z.1)) (inner c i)
  there c i (no p) q = fresh_in c ((u.rest c).1 (i, λ z. p z.0)) (inner c i)

  pub all_there : (c : ℕ) → In st c → Bit rs' n s (c - s) b × Bit rs' n c (s + len - c) e
  all_there c i = there c i (in_dec (get_or sn b 0) c) (in_dec (get_or sn (64 * (s + len) + e) 0) c)

  kid_there : (c : ℕ) → In st c → (q B : ℕ) → Kid n s len (Clause.Binary b e m) (c - s) q B
      → In (get_or rs' q 0) B
  kid_there c i q B (inl z) =
      subst₂ (λ (p C : ℕ). In (get_or rs' p 0) C) (sym z.0) (sym z.1) (all_there c i).0
  kid_there c i q B (inr z) =
      let w = inner c i in
      subst₂ (λ (p C : ℕ). In (get_or rs' p 0) C)
      (ap (λ (d : ℕ). pair_at n d (s + len - c))
      (let f : c ≡ s + (c - s) = omega (arith, w.0) in f)
      ∙ ap (pair_at n (s + (c - s)))
      (let f : s + len - c ≡ len - (c - s) = omega (arith, w.0, w.1) in f) ∙ sym z.0)
      (sym z.1) (all_there c i).1

  pub joins_set : Joins (CutKids n s len (Clause.Binary b e m) st) rs rs'
  joins_set = record {
    long = j.long;
    keeps = j.keeps;
    only = λ q B i. ⊎_elim inl (λ z. inr (z.0, ((u.rest z.0).0 z.1).0, z.2))
        (j.only q B i);
    all = λ q B z. kid_there z.0 z.1 q B z.2;
  }

  pub seen_after : SeenAt n s rs' sn'
  seen_after = seen_noted x y pos all_there u (seen_kept j.keeps v)
