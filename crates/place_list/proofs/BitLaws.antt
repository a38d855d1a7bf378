-- What the words that say where places are say of a span.
use mathlib.Core.Path.{◌≡◌, sym, subst}
use mathlib.Core.List.{List}
use Prim.Native.Nat.{ℕ, ◌+◌, ◌≤◌}
use native.Mathlib.Omega.{arith}
use lib.ListN.{length, get_or}
use Rattle.sets.specs.Sets.{In}
use Rattle.grammar.specs.Layout.{Word}
use Rattle.grammar.specs.Trees.{Rules}
use Rattle.grammar.specs.Rows.{start_of}
use Rattle.grammar.specs.SpanSheet.{pair_at}
use Rattle.places.specs.Places.{Place}
use Rattle.contained_spans.specs.PlaceWords.{PlaceWords}

module _ (g : Rules) (w : Word) (ps : List ℕ) (n : ℕ) (long : length w ≡ n) (r : PlaceWords g w ps)
    (A s len : ℕ) (fit : s + len ≤ n) (at : start_of s len ≡ s)
  where
    pub bit_place : In (get_or ps (pair_at n s len) 0) A → Place g w A s len
    bit_place b =
        subst (λ (x : ℕ). Place g w A x len) at
        ((r.is s len A (omega arith)).0
        (subst (λ (x : ℕ). In (get_or ps (pair_at x s len) 0) A) (sym long) b))

    pub place_bit : Place g w A s len → In (get_or ps (pair_at n s len) 0) A
    place_bit c =
        subst (λ (x : ℕ). In (get_or ps (pair_at x s len) 0) A) long
        ((r.is s len A (omega arith)).1 (subst (λ (x : ℕ). Place g w A x len) (sym at) c))
