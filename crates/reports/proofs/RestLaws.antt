-- What follows a report's fixed beginning, read part by part.
use mathlib.Core.Path.{◌≡◌, refl, sym, ap, ◌∙◌}
use mathlib.Core.Bool.{Bool}
use mathlib.Core.List.{List, [], ◌∷◌, ◌++◌}
use Prim.Native.Nat.{ℕ, ◌+◌, ◌≤◌}
use native.Mathlib.Omega.{arith}
use lib.ListN.{length, drop, drop_of_length-le, length-drop, length-append}
use lib.Seq.{drop-drop}
use Rattle.printing.specs.Printing.{decimal, token_lines}
use Rattle.sheets.specs.Refusals.{number_of}
use Rattle.sheets.specs.TokenSheets.{token_names}
use Rattle.sweep_answers.specs.Sweep.{sweep_limit}
use Rattle.sets.specs.Says.{Says}
use Rattle.sets.proofs.Says.{says_iff}
use Rattle.scanning.specs.Scanned.{Numbered, Unnumbered, Starts}
use Rattle.reports.specs.Rests.{PairTo, NoPair, pair_text, ClearRest, TwoRest, RefusedRest}
use Rattle.reports.specs.Rests.{OfFault, Lines}
use Rattle.std.specs.Prelude.{Some, None}
use Rattle.scanning.proofs.Numbers.{decimal_same}
use Rattle.reports.proofs.Fields.{behind}
use Rattle.reports.proofs.Faults.{fault_most}

-- the names of a token sheet and the byte that ends them
abbrev pub names : List ℕ
names = 116 ∷ 101 ∷ 114 ∷ 109 ∷ 32 ∷ 108 ∷ 105 ∷ 110 ∷ 101 ∷ 32 ∷ 99 ∷ 111 ∷ 108 ∷ 10 ∷ []

module _ (s : List ℕ) (at : ℕ) where
  -- the pair that was read is the only one there
  pair_behind : {a : ℕ} (q m : ℕ) (rest : List ℕ) → PairTo s at a → drop at s ≡ pair_text q m rest
      → drop a s ≡ rest
  pair_behind {a} q m rest x e =
      let f = decimal_same x.quotient q 32 32 (decimal x.remainder ++ (32 ∷ drop a s))
      (decimal m ++ (32 ∷ rest)) (omega arith) (omega arith) (sym x.is ∙ e) in
      (decimal_same x.remainder m 32 32 (drop a s) rest (omega arith) (omega arith) f.1).1

  -- 1. clear

  pub clear_none : NoPair s at → ClearRest (drop at s) → ⊥
  clear_none x r = x.absent r.quotient r.remainder (45 ∷ 10 ∷ []) r.low r.small r.is

  pub clear_says : {a : ℕ} {b : Bool} → PairTo s at a → Says b (drop a s ≡ 45 ∷ 10 ∷ [])
      → Says b (ClearRest (drop at s))
  clear_says {a} x d =
      says_iff
      (λ e. record {
        quotient = x.quotient;
        remainder = x.remainder;
        low = x.low;
        small = x.small;
        is = x.is ∙ ap (λ (l : List ℕ). pair_text x.quotient x.remainder l) e;
      })
      (λ r. pair_behind r.quotient r.remainder (45 ∷ 10 ∷ []) x r.is)
      d

  -- 2. a refusal

  pub refused_first : Unnumbered s at 51 32 → RefusedRest (drop at s) → ⊥
  refused_first x r =
      x.absent (number_of r.fault) (decimal r.line ++ (10 ∷ []))
      (fault_most (number_of r.fault) (record { fault = r.fault; is = refl })) r.is

  module _ {n a : ℕ} (x : Numbered s at 51 32 n a) where
    rest_is : (r : RefusedRest (drop at s))
        → (n ≡ number_of r.fault) × (drop a s ≡ decimal r.line ++ (10 ∷ []))
    rest_is r =
        behind (number_of r.fault) (decimal r.line ++ (10 ∷ [])) (omega arith) x r.is

    pub refused_number : (OfFault n → ⊥) → RefusedRest (drop at s) → ⊥
    refused_number f r = f (record { fault = r.fault; is = sym (rest_is r).0 })

    pub refused_second : Unnumbered s a sweep_limit 10 → RefusedRest (drop at s) → ⊥
    refused_second y r = y.absent r.line [] r.low (rest_is r).1

    pub refused_more : {l b : ℕ} → Numbered s a sweep_limit 10 l b → (b ≡ length s → ⊥)
        → RefusedRest (drop at s) → ⊥
    refused_more {l} {b} y f r =
        let e : length (drop b s) ≡ 0 =
        ap length (behind r.line [] (omega arith) y (rest_is r).1).1 in
        f (omega (arith, length-drop b s, y.inside))

    pub refused_there : {l b : ℕ} → OfFault n → Numbered s a sweep_limit 10 l b → b ≡ length s
        → RefusedRest (drop at s)
    refused_there {l} {b} o y e =
        record {
          fault = o.fault;
          line = l;
          low = y.small;
          is =
              x.is
              ∙ ap (λ (v : ℕ). decimal v ++ (32 ∷ drop a s)) (sym o.is)
              ∙ ap (λ (t : List ℕ). decimal (number_of o.fault) ++ (32 ∷ t))
              (y.is ∙ ap (λ (t : List ℕ). decimal l ++ (10 ∷ t))
              (drop_of_length-le s {i = b} (omega arith)));
        }

  -- 3. two

  pub two_pair : NoPair s at → (n N : ℕ) → TwoRest (drop at s) n N → ⊥
  two_pair x n N r =
      x.absent r.quotient r.remainder
      (decimal N ++ (10 ∷ (token_names ++ (10 ∷ token_lines r.word)))) r.low r.small
      r.is

  module _ {a : ℕ} (x : PairTo s at a) where
    on_pair : {n N : ℕ} (r : TwoRest (drop at s) n N)
        → drop a s ≡ decimal N ++ (10 ∷ (token_names ++ (10 ∷ token_lines r.word)))
    on_pair {n} {N} r = pair_behind r.quotient r.remainder
        (decimal N ++ (10 ∷ (token_names ++ (10 ∷ token_lines r.word)))) x r.is

    pub two_number : Unnumbered s a sweep_limit 10 → (n N : ℕ) → TwoRest (drop at s) n N → ⊥
    two_number y n N r =
        y.absent N (token_names ++ (10 ∷ token_lines r.word)) r.least (on_pair r)

    module _ {M b : ℕ} (y : Numbered s a sweep_limit 10 M b) where
      on_number : {n N : ℕ} (r : TwoRest (drop at s) n N)
          → (M ≡ N) × (drop b s ≡ names ++ token_lines r.word)
      on_number {n} {N} r =
          behind N (token_names ++ (10 ∷ token_lines r.word)) (omega arith) y (on_pair r)

      pub two_names : (Starts (drop b s) names → ⊥) → (n N : ℕ) → TwoRest (drop at s) n N → ⊥
      two_names f n N r = f (record { rest = token_lines r.word; is = (on_number r).1 })

      module _ (z : Starts (drop b s) names) where
        pub rest_there : drop (b + 14) s ≡ z.rest
        rest_there = sym (drop-drop 14 b s) ∙ ap (drop 14) z.is

        pub rest_inside : b + 14 ≤ length s
        rest_inside =
            omega (arith, length-drop b s, ap length z.is ∙ length-append names z.rest)

        pub two_lines : Lines (drop (b + 14) s) None → (n N : ℕ) → TwoRest (drop at s) n N → ⊥
        two_lines l n N r =
            l r.word r.tokens (sym (drop-drop 14 b s) ∙ ap (drop 14) (on_number r).1)

        pub two_there : {k : ℕ} → Lines (drop (b + 14) s) (Some k) → TwoRest (drop at s) k M
        two_there {k} w =
            record {
              quotient = x.quotient;
              remainder = x.remainder;
              low = x.low;
              small = x.small;
              least = y.small;
              word = w.0;
              tokens = w.1;
              count = w.2;
              is =
                  x.is
                  ∙ ap (λ (t : List ℕ). pair_text x.quotient x.remainder t)
                  (y.is ∙ ap (λ (t : List ℕ). decimal M ++ (10 ∷ t))
                  (z.is ∙ ap (λ (t : List ℕ). names ++ t) (sym rest_there ∙ w.3)));
            }
