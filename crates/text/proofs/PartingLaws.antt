-- The search for the first empty line: what stands from a place on settles the answer.
use mathlib.Core.Path.{◌≡◌, refl, sym, ap, ◌∙◌}
use mathlib.Core.Bool.{Bool, true, false, cond, ◌&&◌}
use mathlib.Core.List.{List, [], ◌∷◌, ◌++◌, append-nil}
use mathlib.Core.Option.{Option, none, some}
use Prim.Native.Nat.{ℕ, suc, ◌+◌, ◌≤◌, ◌<◌}
use native.Mathlib.Numerals.{add-one}
use native.Mathlib.Omega.{arith}
use borrow.Author.Tests.{eq-eqb}
use lib.Dec.{eqb}
use lib.ListN.{length, take, drop, get_or}
use lib.Seq.{take-suc, drop-cons, drop-length}
use Rattle.text.specs.Input.{Parts, onto_before, parts_from, parts}

-- bytes put before what is found behind them
pub onto_all : List ℕ → Option Parts → Option Parts
onto_all [] o = o
onto_all (x ∷ u) o = onto_before x (onto_all u o)

all_snoc : (u : List ℕ) (x : ℕ) (o : Option Parts)
    → onto_all (u ++ (x ∷ [])) o ≡ onto_all u (onto_before x o)
unfolding onto_all
all_snoc [] x o = refl
all_snoc (y ∷ u) x o = ap (onto_before y) (all_snoc u x o)

all_some : (u v w : List ℕ) → onto_all u (some (record { before = v; behind = w }))
    ≡ some (record { before = u ++ v; behind = w })
unfolding onto_all
all_some [] v w = refl
all_some (y ∷ u) v w = ap (onto_before y) (all_some u v w)

all_none : (u : List ℕ) → onto_all u none ≡ none
unfolding onto_all
all_none [] = refl
all_none (y ∷ u) = ap (onto_before y) (all_none u)

-- the empty line is looked for from place i on
pub record Seeking (s : List ℕ) (begins : Bool) (i : ℕ) : Type 0 where
  pub low : i ≤ length s
  pub same : parts s ≡ onto_all (take i s) (parts_from begins (drop i s))

pub seeking_start : (s : List ℕ) → Seeking s true 0
unfolding onto_all
seeking_start s = record { low = omega arith; same = refl }

-- the byte at i is no empty line
pub seeking_next : (s : List ℕ) (begins : Bool) (i : ℕ) → i < length s
    → begins && eqb (get_or s i 0) 10 ≡ false
    → Seeking s begins i → Seeking s (eqb (get_or s i 0) 10) (i + 1)
seeking_next s begins i h e k =
    record {
      low = omega arith;
      same =
          k.same ∙ ap (λ (l : List ℕ). onto_all (take i s) (parts_from begins l))
          (drop-cons s i 0 h)
          ∙ ap (λ (b : Bool). onto_all (take i s)
          (cond b (some (record { before = []; behind = drop (suc i) s }))
          (onto_before (get_or s i 0) (parts_from (eqb (get_or s i 0) 10) (drop (suc i) s))))) e
          ∙ sym (all_snoc (take i s) (get_or s i 0)
          (parts_from (eqb (get_or s i 0) 10) (drop (suc i) s)))
          ∙ rw (add-one i, take-suc s i 0 h);
    }

pub seeking_found : (s : List ℕ) (i : ℕ) → i < length s → get_or s i 0 ≡ 10 → Seeking s true i
    → parts s ≡ some (record { before = take i s; behind = drop (i + 1) s })
seeking_found s i h n k =
    k.same ∙ ap (λ (l : List ℕ). onto_all (take i s) (parts_from true l)) (drop-cons s i 0 h)
    ∙ ap (λ (b : Bool). onto_all (take i s)
    (cond b (some (record { before = []; behind = drop (suc i) s }))
    (onto_before (get_or s i 0) (parts_from (eqb (get_or s i 0) 10) (drop (suc i) s)))))
    (eq-eqb (get_or s i 0) 10 n) ∙ all_some (take i s) [] (drop (suc i) s)
    ∙ rw (append-nil (take i s), add-one i)

pub seeking_end : (s : List ℕ) (begins : Bool) (i : ℕ) → length s ≤ i → Seeking s begins i
    → parts s ≡ none
seeking_end s begins i h k =
    let e : i ≡ length s = omega (arith, k.low) in
    k.same ∙ ap (λ (n : ℕ). onto_all (take i s) (parts_from begins (drop n s))) e
    ∙ ap (λ (l : List ℕ). onto_all (take i s) (parts_from begins l)) (drop-length s)
    ∙ all_none (take i s)
