-- Laws of sheets that are exact up to a token.
use mathlib.Core.Path.{◌≡◌, refl, sym, ap, ◌∙◌, subst, subst₂}
use mathlib.Core.Logic.{◌↔◌}
use mathlib.Core.List.{List, [], ◌∷◌}
use Prim.Native.Nat.{ℕ, zero, suc, ◌+◌, ◌*◌, ◌≤◌}
use native.Mathlib.Omega.{arith}
use lib.ListN.{get_or, take}
use lib.Seq.{take-take}
use Rattle.sets.specs.Sets.{In}
use Rattle.grammar.specs.Layout.{Word}
use Rattle.grammar.specs.Trees.{Rules, Derives, TwoTrees}
use Rattle.grammar.specs.SpanSheet.{part, first_word, second_word}
use Rattle.spans.proofs.Places.{pair_at_empty}
use Rattle.chart.specs.Leaves.{EmptyPair}
use Rattle.chart.specs.Sheets.{Exact}

-- fewer tokens
pub exact_less : {g : Rules} {w : Word} {n : ℕ} {ws : List ℕ} {to : ℕ} (less : ℕ) → less ≤ to
    → Exact g w n ws to → Exact g w n ws less
exact_less less l y = record {
  one = λ s len A fit. y.one s len A (omega arith);
  two = λ s len A
      fit. y.two s len A (omega arith);
}

part_front : (w : Word) (s len to : ℕ) → s + len ≤ to → part (take to w) s len ≡ part w s len
part_front w zero len to h = take-take len to w (omega arith)
part_front w (suc s) len zero h = absurd (omega arith)
part_front [] (suc s) len (suc to) h = refl
part_front (a ∷ w) (suc s) len (suc to) h = part_front w s len to (omega arith)

-- it speaks of the tokens before `to` alone
pub exact_front : {g : Rules} {w : Word} {n : ℕ} {ws : List ℕ} {to : ℕ} (w' : Word)
    → take to w' ≡ take to w → Exact g w n ws to → Exact g w' n ws to
exact_front {g} {w} {n} {ws} {to} w' e y = record {
  one = λ s len A fit. subst (λ (v : Word). In (first_word ws n s len) A ↔ Derives g A v)
      (same_part s len fit) (y.one s len A fit);
  two = λ s len A fit. subst (λ (v : Word). In (second_word ws n s len) A ↔ TwoTrees g A v)
      (same_part s len fit) (y.two s len A fit);
}
  where
    same_part : (s len : ℕ) → s + len ≤ to → part w s len ≡ part w' s len
    same_part s len fit = sym (part_front w s len to fit) ∙ ap (λ (v : Word). part v s len) (sym e)
        ∙ part_front w' s len to fit

-- and of the words of the spans that end there
pub exact_words : {g : Rules} {w : Word} {n : ℕ} {ws : List ℕ} {to : ℕ} (ws' : List ℕ)
    → ((s len : ℕ) → s + len ≤ to → (first_word ws' n s len ≡ first_word ws n s len)
    × (second_word ws' n s len ≡ second_word ws n s len)) → Exact g w n ws to → Exact g w n ws' to
exact_words {g} {w} {n} {ws} {to} ws' e y = record {
  one = λ s len A fit. subst (λ (v : ℕ). In v A ↔ Derives g A (part w s len)) (sym (e s len fit).0)
      (y.one s len A fit);
  two = λ s len A fit. subst (λ (v : ℕ). In v A ↔ TwoTrees g A (part w s len))
      (sym (e s len fit).1) (y.two s len A fit);
}

-- ---- the empty word

-- its pair is the same wherever it stands
module _ {g : Rules} {w : Word} {n : ℕ} {ws : List ℕ} (x : Exact g w n ws 0) where
  pub null_one : (a A : ℕ) → In (first_word ws n a 0) A → Derives g A (part w a 0)
  null_one a A m = (x.one 0 0 A (omega arith)).0
      (subst (λ (q : ℕ). In (get_or ws (2 * q) 0) A) (pair_at_empty n a ∙ sym (pair_at_empty n 0))
      m)

  pub null_two : (a A : ℕ) → In (second_word ws n a 0) A → TwoTrees g A (part w a 0)
  null_two a A m = (x.two 0 0 A (omega arith)).0
      (subst (λ (q : ℕ). In (get_or ws (2 * q + 1) 0) A)
      (pair_at_empty n a ∙ sym (pair_at_empty n 0))
      m)

-- and goes by no sentence: it is the first two words
pub empty_exact : {g : Rules} {p q : ℕ} {ws : List ℕ} → EmptyPair g p q → get_or ws 0 0 ≡ p
    → get_or ws 1 0 ≡ q → (w : Word) (n : ℕ) → Exact g w n ws 0
empty_exact {g} {p} {q} {ws} x e f w n = record {
  one = λ s len A fit. subst₂ (λ (a b : ℕ). In (first_word ws n a b) A ↔ Derives g A (part w a b))
      (let z : 0 ≡ s = omega arith in z) (let z : 0 ≡ len = omega arith in z) (one A);
  two = λ s len A fit. subst₂ (λ (a b : ℕ). In (second_word ws n a b) A ↔ TwoTrees g A (part w a b))
      (let z : 0 ≡ s = omega arith in z) (let z : 0 ≡ len = omega arith in z) (two A);
}
  where
    one : (A : ℕ) → In (first_word ws n 0 0) A ↔ Derives g A (part w 0 0)
    one A = subst (λ (z : ℕ). In z A ↔ Derives g A [])
        (sym e ∙ ap (λ (z : ℕ). get_or ws (2 * z) 0) (sym (pair_at_empty n 0))) (x.one A)

    two : (A : ℕ) → In (second_word ws n 0 0) A ↔ TwoTrees g A (part w 0 0)
    two A = subst (λ (z : ℕ). In z A ↔ TwoTrees g A [])
        (sym f ∙ ap (λ (z : ℕ). get_or ws (2 * z + 1) 0) (sym (pair_at_empty n 0))) (x.two A)
