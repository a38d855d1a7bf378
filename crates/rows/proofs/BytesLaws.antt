-- Laws of replaced bytes.
use mathlib.Core.Path.{◌≡◌, sym, ap, ◌∙◌}
use mathlib.Core.List.{List, ◌++◌, append_assoc}
use Prim.Native.Nat.{ℕ, ◌+◌, ◌-◌, ◌≤◌}
use native.Mathlib.Omega.{arith}
use borrow.Rule.Slice.PartMut.{put_mid}
use lib.ListN.{length, take, drop, length-append, length-take, length-drop}
use lib.Seq.{take_at, drop_at, take-append-le, drop-append-add, drop-drop, take-take}
use Rattle.rows.specs.Bytes.{splice}

module _ (l : List ℕ) (at : ℕ) (v : List ℕ) (fits : at + length v ≤ length l) where
  head_length : length (take at l ++ v) ≡ at + length v
  head_length = simp (length-append, length-take) (omega arith)

  pub length_splice : length (splice l at v) ≡ length l
  unfolding splice
  length_splice = simp (length-append, length-take, length-drop) (omega arith)

  pub take_splice : take (at + length v) (splice l at v) ≡ take at l ++ v
  unfolding splice
  take_splice = take_at (take at l ++ v) (drop (at + length v) l) (at + length v) head_length

  pub take_splice_low : (m : ℕ) → m ≤ at → take m (splice l at v) ≡ take m l
  unfolding splice
  take_splice_low m h =
      take-append-le m (take at l ++ v) (drop (at + length v) l) (omega (arith, head_length))
      ∙ take-append-le m (take at l) v (simp length-take (omega arith))
      ∙ take-take m at l h

  pub drop_splice : drop at (splice l at v) ≡ v ++ drop (at + length v) l
  unfolding splice
  drop_splice = rw append_assoc (drop_at (take at l) (v ++ drop (at + length v) l) at
      (simp length-take (omega arith)))

  pub drop_splice_high : (m : ℕ) → at + length v ≤ m → drop m (splice l at v) ≡ drop m l
  unfolding splice
  drop_splice_high m h =
      let e : m ≡ length (take at l ++ v) + (m - (at + length v)) = omega (arith, head_length) in
      let f : m ≡ (at + length v) + (m - (at + length v)) = omega arith in
      ap (λ (k : ℕ). drop k (take at l ++ v ++ drop (at + length v) l)) e
      ∙ drop-append-add (take at l ++ v) (drop (at + length v) l) (m - (at + length v))
      ∙ drop-drop (m - (at + length v)) (at + length v) l
      ∙ ap (λ (k : ℕ). drop k l) (sym f)

-- what is copied into the part from `at` on, as long as v, is v in the place of as many bytes
pub put_splice : (l v : List ℕ) (at : ℕ) → length v ≡ 4
    → put_mid at (at + 4 - at) l v ≡ splice l at v
unfolding splice
put_splice l v at h =
    let k : at + (at + 4 - at) ≡ at + length v = omega arith in
    ap (λ (x : List ℕ). take at l ++ (v ++ x))
    (drop-drop (at + 4 - at) at l ∙ ap (λ (m : ℕ). drop m l) k)
    ∙ sym (append_assoc (take at l) v (drop (at + length v) l))
