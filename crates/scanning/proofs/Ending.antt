-- Digits with the byte that is to end them.
use mathlib.Core.Path.{◌≡◌, sym, ap, ◌∙◌}
use mathlib.Core.Logic.{◌⊎◌, inl, inr}
use mathlib.Core.List.{List, ◌∷◌, ◌++◌}
use Prim.Native.Nat.{ℕ, ◌+◌, ◌≤◌, ◌<◌}
use native.Mathlib.Numerals.{add-one}
use native.Mathlib.Omega.{arith}
use lib.ListN.{length, drop, get_or, length-append, length-drop}
use lib.Seq.{drop-cons}
use Rattle.printing.specs.Printing.{decimal}
use Rattle.scanning.specs.declared.Digits.{Digits}
use Rattle.scanning.specs.Scanned.{DigitsAt, Numbered, Unnumbered}
use Rattle.scanning.proofs.Numbers.{decimal_some}

module _ (s : List ℕ) (at most end : ℕ) (r : Digits) (low : end < 48)
    (d : DigitsAt s at most r) where
  front : r.next < length s → drop r.next s ≡ get_or s r.next 0 ∷ drop (r.next + 1) s
  front h = rw (add-one r.next) (drop-cons s r.next 0 h)

  -- no digit
  pub no_digit : r.next ≡ at → Unnumbered s at most end
  no_digit e =
      record {
        absent = λ v t m p.
            let q : drop at s ≡ end ∷ t =
            ap (λ (j : ℕ). drop j s) (sym e) ∙ (d.only v end t m low p).1 in
            let n : length (decimal v ++ (end ∷ t)) ≡ length (end ∷ t) = ap length (sym p ∙ q) in
            omega (arith, decimal_some v, length-append (decimal v) (end ∷ t));
      }

  -- nothing behind the digits
  pub no_end : length s ≤ r.next → Unnumbered s at most end
  no_end h =
      record {
        absent = λ v t m p.
            let n : length (drop r.next s) ≡ length (end ∷ t) =
            ap length (d.only v end t m low p).1 in
            omega (arith, length-drop r.next s);
      }

  -- another byte behind them
  pub other_end : r.next < length s → (get_or s r.next 0 ≡ end → ⊥) → Unnumbered s at most end
  other_end h f =
      record {
        absent = λ v t m p.
            f (ap (λ (l : List ℕ). get_or l 0 0) (sym (front h) ∙ (d.only v end t m low p).1));
      }

  pub ended : (r.next ≡ at → ⊥) → r.next < length s → get_or s r.next 0 ≡ end
      → Numbered s at most end r.value (r.next + 1)
  ended f h e = record { small = d.small; inside = omega arith; is = go d.read }
    where
      go : (r.next ≡ at) ⊎ (drop at s ≡ decimal r.value ++ drop r.next s)
          → drop at s ≡ decimal r.value ++ (end ∷ drop (r.next + 1) s)
      go (inl p) = absurd (f p)
      go (inr p) = p ∙ ap (λ (l : List ℕ). decimal r.value ++ l)
          (front h ∙ ap (λ (b : ℕ). b ∷ drop (r.next + 1) s) e)
