-- Tree lines, line by line.
use mathlib.Core.Path.{◌≡◌, refl, sym, ap, ◌∙◌}
use mathlib.Core.List.{List, [], ◌∷◌, ◌++◌, append-nil, append_assoc}
use Prim.Native.Nat.{ℕ, zero, suc, ◌+◌, ◌*◌, ◌≤◌}
use native.Mathlib.Nat.{add-zero}
use native.Mathlib.Omega.{arith}
use lib.ListN.{length, take, drop, get_or}
use lib.Seq.{take-add, length-take-le, get_or-drop}
use Rattle.printing.specs.Printing.{row_text_of, row_lines}

-- whole rows before others
rows_append : (t m : ℕ) (a b : List ℕ) → length a ≡ 4 * m
    → row_lines t (a ++ b) ≡ row_lines t a ++ row_lines t b
rows_append t zero [] b e = refl
rows_append t zero (x ∷ a) b e = absurd (omega arith)
rows_append t (suc m) (A ∷ k ∷ s ∷ n ∷ a) b e = ap (λ (l : List ℕ). row_text_of t A k s n ++ l)
    (rows_append t m a b (omega arith)) ∙ sym
    (append_assoc (row_text_of t A k s n) (row_lines t a) (row_lines t b))
rows_append t (suc m) [] b e = absurd (omega arith)
rows_append t (suc m) (A ∷ []) b e = absurd (omega arith)
rows_append t (suc m) (A ∷ k ∷ []) b e = absurd (omega arith)
rows_append t (suc m) (A ∷ k ∷ s ∷ []) b e = absurd (omega arith)

-- the row at i
pub four : (l : List ℕ) → 4 ≤ length l
    → take 4 l ≡ get_or l 0 0 ∷ get_or l 1 0 ∷ get_or l 2 0 ∷ get_or l 3 0 ∷ []
four (a ∷ b ∷ c ∷ d ∷ l) h = refl
four [] h = absurd (omega arith)
four (a ∷ []) h = absurd (omega arith)
four (a ∷ b ∷ []) h = absurd (omega arith)
four (a ∷ b ∷ c ∷ []) h = absurd (omega arith)

pub rows_more : (t i : ℕ) (l : List ℕ) → 4 * i + 4 ≤ length l
    → row_lines t (take (4 * (i + 1)) l) ≡ row_lines t (take (4 * i) l)
    ++ row_text_of t (get_or l (4 * i) 0) (get_or l (4 * i + 1) 0) (get_or l (4 * i + 2) 0)
    (get_or l (4 * i + 3) 0)
rows_more t i l h =
    let e : 4 * (i + 1) ≡ 4 * i + 4 = omega arith in
    let d : 4 ≤ length (drop (4 * i) l) = omega (arith, lib.ListN.length-drop (4 * i) l) in
    let f : take 4 (drop (4 * i) l) ≡ get_or l (4 * i) 0 ∷ get_or l (4 * i + 1) 0
    ∷ get_or l (4 * i + 2) 0
    ∷ get_or l (4 * i + 3) 0 ∷ [] =
    four (drop (4 * i) l) d ∙ simp (get_or-drop, add-zero) in
    rw (e, take-add (4 * i) 4 l, f)
    (rows_append t i (take (4 * i) l)
    (get_or l (4 * i) 0 ∷ get_or l (4 * i + 1) 0 ∷ get_or l (4 * i + 2) 0 ∷ get_or l (4 * i + 3) 0
    ∷ [])
    (length-take-le (4 * i) l (omega arith)) ∙ ap
    (λ (x : List ℕ). row_lines t (take (4 * i) l) ++ x)
    (append-nil (row_text_of t (get_or l (4 * i) 0) (get_or l (4 * i + 1) 0)
    (get_or l (4 * i + 2) 0) (get_or l (4 * i + 3) 0))))
