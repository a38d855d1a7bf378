-- Bytes put into a buffer one after the other.
use mathlib.Core.Path.{◌≡◌, refl, sym, ap, ◌∙◌}
use mathlib.Core.List.{List, [], ◌∷◌, ◌++◌, append-nil, append_assoc}
use Prim.Native.Nat.{ℕ, ◌+◌, ◌<◌}
use native.Mathlib.Nat.{add-zero}
use native.Mathlib.Numerals.{add-one}
use native.Mathlib.Omega.{arith}
use lib.ListN.{length, take, drop, set, get_or, length-set, length-append}
use lib.Seq.{take-suc-set, drop-set-lt, take-suc, drop-drop}
use Rattle.printing.specs.Printing.{Wrote}

pub wrote_none : (l : List ℕ) (at : ℕ) → Wrote l l at [] at
wrote_none l at = record {
  next = sym (add-zero at);
  long = refl;
  front = sym
      (append-nil (take at l));
  rest = refl;
}

pub wrote_one : (l : List ℕ) (at b : ℕ) → at < length l → Wrote l (set l at b) at (b ∷ []) (at + 1)
wrote_one l at b h =
    record {
      next = refl;
      long = length-set l at b;
      front = rw add-one (take-suc-set l at b h);
      rest = drop-set-lt (at + 1) l at b (omega arith);
    }

pub wrote_then : {a b c x y : List ℕ} {at m n : ℕ} → Wrote a b at x m → Wrote b c m y n
    → Wrote a c at (x ++ y) n
wrote_then {a} {b} {c} {x} {y} {at} {m} {n} p q =
    record {
      next = omega (arith, p.next, q.next, length-append x y);
      long = q.long ∙ p.long;
      front = q.front ∙ ap (λ (l : List ℕ). l ++ y) p.front ∙ append_assoc (take at a) x y;
      rest = q.rest ∙ (rw q.next (sym (drop-drop (length y) m b)
          ∙ ap (drop (length y)) p.rest ∙ drop-drop (length y) m a));
    }

-- a turn of a loop that puts the bytes bs one by one
pub wrote_turn : (old new bs : List ℕ) (at i : ℕ) → i < length bs → at + i < length new
    → Wrote old new at (take i bs) (at + i)
    → Wrote old (set new (at + i) (get_or bs i 0)) at (take (i + 1) bs) (at + (i + 1))
wrote_turn old new bs at i h l w =
    let e : at + i + 1 ≡ at + (i + 1) = omega arith in
    rw (add-one i, take-suc bs i 0 h, ← add-one i, ← e)
    (wrote_then w (wrote_one new (at + i) (get_or bs i 0) l))
