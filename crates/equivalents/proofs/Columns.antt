-- Whether one of a candidate's first cells is in a column, as a search through the columns tells.
use mathlib.Core.Path.{◌≡◌, refl, sym, ◌∙◌, ap}
use mathlib.Core.Bool.{Bool, true, false, ◌||◌}
use mathlib.Core.Logic.{◌↔◌}
use mathlib.Core.List.{List, [], ◌∷◌}
use Prim.Native.Nat.{ℕ, zero, suc, ◌+◌, ◌≤◌, ◌<◌}
use native.Mathlib.Omega.{arith}
use lib.Dec.{eqb}
use lib.ListN.{length, get_or, take, drop}
use lib.Seq.{drop-cons}
use borrow.Author.Tests.{eq-eqb, eqb-true}
use Rattle.std.specs.Prelude.{IsTrue, SomeIndex}
use Rattle.sets.proofs.Says.{true_not_false}
use Rattle.grammar.specs.declared.Cell.{Cell}
use Rattle.candidates.specs.declared.Candidate.{Candidate}
use Rattle.candidates.specs.Arrays.{cells}
use Rattle.equivalents.specs.Twins.{used}

-- the columns of cells
abbrev columns_of : List Cell → List ℕ
columns_of [] = []
columns_of (c ∷ cs) = c.column ∷ columns_of cs

-- those of j cells from i on stand there in the array
columns_from : (c : Candidate) (i j : ℕ) → i + j ≤ length c.columns
    → columns_of (cells c i j) ≡ take j (drop i c.columns)
columns_from c i zero h = refl
columns_from c i (suc j) h =
    ap (λ (ks : List ℕ). get_or c.columns i 0 ∷ ks)
    (columns_from c (suc i) j (omega arith))
    ∙ sym (ap (take (suc j)) (drop-cons c.columns i 0 (omega arith)))

-- one of them is j
abbrev pub InColumn : ℕ → List ℕ → Type 0
InColumn j ks = SomeIndex ks (λ i. get_or ks i 0 ≡ j)

used_in : (j : ℕ) (cs : List Cell) → used j cs ≡ true → InColumn j (columns_of cs)
used_in j [] e = absurd (true_not_false (sym e))
used_in j (c ∷ cs) e = go (eqb c.column j) refl (used_in j cs) e
  where
    go : (b : Bool) → eqb c.column j ≡ b → (used j cs ≡ true → InColumn j (columns_of cs))
        → (b || used j cs) ≡ true → InColumn j (columns_of (c ∷ cs))
    go true q ih h = (0, omega arith, eqb-true c.column j q)
    go false q ih h = let k = ih h in (suc k.0, omega (arith, k.1), k.2)

in_used : (j : ℕ) (cs : List Cell) → InColumn j (columns_of cs) → used j cs ≡ true
in_used j [] k = absurd (omega (arith, k.1))
in_used j (c ∷ cs) k = go (in_used j cs) k.0 k.1 k.2
  where
    or_true : (b : Bool) → (b || true) ≡ true
    or_true true = refl
    or_true false = refl

    go : (InColumn j (columns_of cs) → used j cs ≡ true) → (i : ℕ)
        → i < length (columns_of (c ∷ cs)) → get_or (columns_of (c ∷ cs)) i 0 ≡ j
        → used j (c ∷ cs) ≡ true
    go ih zero h e = rw (eq-eqb c.column j e)
    go ih (suc i) h e =
        rw (ih (i, omega (arith, h), e)) (or_true (eqb c.column j))

same : (r u : Bool) → (r ≡ true → u ≡ true) → (u ≡ true → r ≡ true) → r ≡ u
same true u f g = sym (f refl)
same false true f g = g refl
same false false f g = refl

pub used_is : (c : Candidate) (b j : ℕ) (r : Bool) → b ≤ length c.columns
    → IsTrue r ↔ InColumn j (take b c.columns) → r ≡ used j (cells c 0 b)
used_is c b j r h k =
    let e : columns_of (cells c 0 b) ≡ take b c.columns = columns_from c 0 b (omega arith) in
    let m : IsTrue r ↔ InColumn j (columns_of (cells c 0 b)) = rw e k in
    same r _ (λ q. in_used j (cells c 0 b) (m.0 q)) (λ q. m.1 (used_in j (cells c 0 b) q))
