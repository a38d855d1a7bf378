-- A B clause beside the empty word: with no token on its left, and with all.
use mathlib.Core.Path.{◌≡◌, refl, sym, ap, ◌∙◌, subst}
use mathlib.Core.Logic.{◌⊎◌, inl, inr, ⊎_elim}
use mathlib.Core.List.{List}
use Prim.Native.Nat.{ℕ, ◌+◌, ◌-◌, ◌*◌, ◌≤◌}
use native.Mathlib.Omega.{arith}
use lib.ListN.{length, get_or}
use Rattle.sets.specs.Sets.{In}
use Rattle.grammar.specs.declared.BinaryMark.{BinaryMark}
use Rattle.grammar.specs.declared.Clause.TheVariants as Clause
use Rattle.grammar.specs.SpanSheet.{pair_at}
use Rattle.spans.proofs.Places.{pair_at_empty}
use Rattle.marks.specs.declared.SpanMarks.{SpanMarks}
use Rattle.marks.specs.Marked.{BinaryBy}
use Rattle.tables.specs.Tables.{One, by_marks, Fits}
use Rattle.cuts.specs.Joining.{Joins}
use Rattle.cuts.proofs.JoinLaws.{joins_none, joins_as}
use Rattle.contained_spans.specs.Joining.{LeftKids}
use Rattle.contained_spans.specs.Counting.{Plus}
use Rattle.contained_spans.specs.Trying.{TriedLeft, Sides, both, lacks, EndsSpread}
use Rattle.contained_spans.proofs.CountLaws.{tells_none, tells_one}

-- no mark is asked at a span's ends
edge : (k : SpanMarks) (len : ℕ) (m : BinaryMark) (l : ℕ) → (l ≡ 0) ⊎ (l ≡ len) → BinaryBy k len m l
edge k len BinaryMark.None l f = tt
edge k len BinaryMark.Align l f = λ p q. absurd (⊎_elim (λ e. omega arith) (λ e. omega arith) f)
edge k len BinaryMark.Indent l f = λ p q. absurd (⊎_elim (λ e. omega arith) (λ e. omega arith) f)

-- other names of the pairs
moved : {p p' q q' b e : ℕ} → p ≡ p' → q ≡ q' → (x B : ℕ)
    → ((x ≡ p) × (B ≡ b)) ⊎ ((x ≡ q) × (B ≡ e)) → ((x ≡ p') × (B ≡ b)) ⊎ ((x ≡ q') × (B ≡ e))
moved u v x B (inl h) = inl (h.0 ∙ u, h.1)
moved u v x B (inr h) = inr (h.0 ∙ v, h.1)

-- the two sides are those of a left length at an end
sides_left : {ws rs rs' : List ℕ} {n s len p q b e r : ℕ} (l : ℕ) → l ≤ len
    → (l ≡ 0) ⊎ (l ≡ len) → p ≡ pair_at n s l → q ≡ pair_at n (s + l) (len - l)
    → (k : SpanMarks) (m : BinaryMark) → Sides ws p q b e rs rs' r
    → TriedLeft ws n s len k (Clause.Binary b e m) l rs rs' r
sides_left {ws} {rs} {rs'} {n} {s} {len} {b = b} {e} l low out u v k m (both z i j w) =
    subst (TriedLeft ws n s len k (Clause.Binary b e m) l rs rs') (sym z) (record {
      joins = joins_as (λ x B h. (fits, moved u v x B h))
          (λ x B h. moved (sym u) (sym v) x B h.1) w;
      tells = tells_one l (refl, fits) (λ y z p q. p.0 ∙ sym q.0);
    })
  where
    fits : Fits (One ws n) (by_marks k len) s len (Clause.Binary b e m) l
    fits = (
      low,
      subst (λ (x : ℕ). In (get_or ws (2 * x) 0) b) u i,
      subst (λ (x : ℕ). In (get_or ws (2 * x) 0) e) v j,
      edge k len m l out,
    )
sides_left {ws} {rs} {rs'} {n} {s} {len} {b = b} {e} l low out u v k m (lacks z w f) =
    subst (TriedLeft ws n s len k (Clause.Binary b e m) l rs rs') (sym z) (record {
      joins = subst (Joins (LeftKids ws n s len k (Clause.Binary b e m) l) rs) (sym w)
          (joins_as (λ x B h. absurd h) (λ x B h. unfit l refl h.0) (joins_none rs));
      tells = tells_none (λ y h. unfit y h.0 h.1);
    })
  where
    unfit : (y : ℕ) → y ≡ l → Fits (One ws n) (by_marks k len) s len (Clause.Binary b e m) y → ⊥
    unfit y t h =
        let g = subst (Fits (One ws n) (by_marks k len) s len (Clause.Binary b e m)) t h in
        f (subst (λ (x : ℕ). In (get_or ws (2 * x) 0) b) (sym u) g.1)
        (subst (λ (x : ℕ). In (get_or ws (2 * x) 0) e) (sym v) g.2)

pub sides_long : {ws rs rs' : List ℕ} {p q b e r : ℕ} → Sides ws p q b e rs rs' r
    → length rs' ≡ length rs
sides_long (both z i j w) = w.long
sides_long (lacks z w f) = ap length w

pub sides_few : {ws rs rs' : List ℕ} {p q b e r : ℕ} → Sides ws p q b e rs rs' r → r ≤ 2
sides_few (both z i j w) = omega arith
sides_few (lacks z w f) = omega arith

-- the pairs of no token on the left, and of all
pub ends_spread : {ws rs rs₁ rs₂ : List ℕ} {n s len p b e x y r : ℕ} → p ≡ pair_at n s len
    → Sides ws 0 p b e rs rs₁ x → Sides ws p 0 b e rs₁ rs₂ y → Plus x y r
    → EndsSpread ws n s len b e rs rs₂ r
ends_spread {rs₁ = rs₁} {n = n} {s} {len} {x = x} {y} z u v w = record {
  between = rs₁;
  first = x;
  second = y;
  none = λ k m. sides_left 0 (omega arith) (inl refl) (sym (pair_at_empty n s))
      (z ∙ ap (λ (i : ℕ). pair_at n i len) (let f : s ≡ s + 0 = omega arith in f)
      ∙ ap (pair_at n (s + 0)) (let f : len ≡ len - 0 = omega arith in f)) k m u;
  all = λ k m. sides_left len (omega arith) (inr refl) z
      (sym (pair_at_empty n (s + len))
      ∙ ap (pair_at n (s + len)) (let f : 0 ≡ len - len = omega arith in f)) k m v;
  plus = w;
}

-- neither has the empty word
pub ends_none : {ws rs : List ℕ} {n s len b e : ℕ} → (In (get_or ws 0 0) b → ⊥)
    → (In (get_or ws 0 0) e → ⊥) → EndsSpread ws n s len b e rs rs 0
ends_none f g = ends_spread refl (lacks refl refl (λ i j. f i)) (lacks refl refl (λ i j. g j))
    (record { less = λ h. refl; many = λ h. absurd (omega arith) })
