-- Words of cuts that were filled: what the bits put in say of the span sheet.
use mathlib.Core.Path.{◌≡◌, refl, sym, ap, subst}
use mathlib.Core.Logic.{⊎_elim}
use mathlib.Core.List.{List}
use Prim.Native.Nat.{ℕ, zero, suc, ◌+◌, ◌-◌, ◌*◌, ◌<◌}
use native.Mathlib.Omega.{arith}
use native.Mathlib.Nat.{zero-add}
use lib.ListN.{length, get_or, replicate, length-replicate}
use Rattle.sets.specs.Sets.{In}
use Rattle.sets.proofs.Sets.{in_zero}
use Rattle.grammar.specs.SpanSheet.{first_word}
use Rattle.spans.specs.Changes.{Cleared}
use Rattle.tables.specs.Tables.{One}
use Rattle.cuts.specs.Joining.{Joins}
use Rattle.cuts.proofs.Bits.{in_word}
use Rattle.cut_tables.specs.Tables.{Columns, CutTable, StartBits, RowBits}

pub zeros : (k q : ℕ) → get_or {A = ℕ} (replicate k 0) q 0 ≡ 0
zeros zero q = refl
zeros (suc k) zero = refl
zeros (suc k) (suc q) = zeros k q

-- the span of a tree, by its ends
one_as : (ws : List ℕ) (n s c j d A C : ℕ) → s ≡ c → d ≡ j → A ≡ C
    → In (first_word ws n s (d - s)) A → One ws n c (j - c) C
one_as ws n s c j d A C e f g x =
    subst (λ (z : ℕ). One ws n c (j - c) z) g
    (subst (λ (z : ℕ). One ws n c (z - c) A) f (subst (λ (z : ℕ). One ws n z (d - z) A) e x))

-- all trees were put into words that were 0
pub columns_made : (ws : List ℕ) (n : ℕ) (cs cs' : List ℕ) → cs ≡ replicate 4160 0
    → Joins (StartBits ws n n) cs cs' → Columns ws n cs'
columns_made ws n cs cs' e a = record {
  long = omega (arith, a.long, ap length e, length-replicate {A = ℕ} 4160 0);
  column = λ j C c pos h small. (
    λ x. ⊎_elim (λ y. absurd (in_zero c (in_word (none (64 * j + C)) y)))
        (λ y. told j C c small y) (a.only (64 * j + C) c x),
    λ x. a.all (64 * j + C) c
        (c, omega (arith, x.0), (j, (x.0, h, (C, x.1, (small, refl, refl))))),
  );
}
  where
    none : (q : ℕ) → get_or cs q 0 ≡ 0
    none q = subst (λ (l : List ℕ). get_or l q 0 ≡ 0) (sym e) (zeros 4160 q)

    told : (j C c : ℕ) → C < 64 → StartBits ws n n (64 * j + C) c → (c < j) × One ws n c (j - c) C
    told j C c small (s, m, (d, (l, h, (A, x, (low, q, k))))) =
        let f : d ≡ j = omega arith in
        let g : A ≡ C = omega arith in
        (omega arith, one_as ws n s c j d A C (sym k) f g x)

-- the row was cleared, and the trees from s on were put into it
pub table_made : (ws : List ℕ) (n s : ℕ) (cs cs₁ cs₂ : List ℕ) → Columns ws n cs
    → Cleared cs cs₁ 64 → Joins (RowBits ws n s) cs₁ cs₂ → CutTable ws n s cs₂
table_made ws n s cs cs₁ cs₂ o d a = record {
  columns = record {
    long = omega (arith, a.long, d.past.long, o.long);
    column = λ j C c pos h small.
        let e = d.past.rest (64 * j + C) (omega arith) in (
          λ x. (o.column j C c pos h small).0
              (⊎_elim (λ y. in_word e y) (λ y. absurd (far j C c pos y))
              (a.only (64 * j + C) c x)),
          λ x. a.keeps (64 * j + C) c (in_word (sym e) ((o.column j C c pos h small).1 x)),
        );
  };
  row = λ B c small. (
    λ x. ⊎_elim (λ y. absurd (in_zero c (in_word (d.zeros B small) y))) (λ y. told B c small y)
        (a.only B c x),
    λ x. a.all B c (c, (x.0, x.1, (B, x.2, (small, sym (zero-add B), refl)))),
  );
}
  where
    far : (j C c : ℕ) → 0 < j → RowBits ws n s (64 * j + C) c → ⊥
    far j C c pos (d, (l, h, (A, x, (low, q, k)))) = omega arith

    told : (B c : ℕ) → B < 64 → RowBits ws n s B c → (s < c) × (c < n) × One ws n s (c - s) B
    told B c small (d, (l, h, (A, x, (low, q, k)))) =
        let f : d ≡ c = sym k in (
          omega arith,
          omega arith,
          one_as ws n s s c d A B refl f (let g : A ≡ B = omega arith in g)
              x,
        )
