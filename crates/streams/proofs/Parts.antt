-- The front of a buffer grows by what is moved behind it.
use Rattle.std.proofs.Common.{◌≡◌, ℕ, ◌+◌, ◌-◌, ◌≤◌, List, ◌++◌, length, take, drop, sym, ap, ◌∙◌}
use Rattle.std.proofs.Common.{le_refl, length-take-le, drop_at}
use Rattle.std.proofs.lemmas.Slice.{take-put_mid_below}
use Rattle.std.proofs.lemmas.List.{take_rest}
use borrow.Rule.Slice.PartMut.{put_mid, post_of}
use lib.Seq.{take-add, take-append-le}

-- the first n of ys stand behind the first a of xs, once ys is put there
pub take-put_mid : (a n : ℕ) (xs ys : List ℕ) → a ≤ length xs → n ≤ length ys
    → take a xs ++ take n ys ≡ take (a + n) (put_mid a (length xs - a) xs ys)
take-put_mid a n xs ys within fits =
    let k = length xs - a in
    let all = put_mid a k xs ys in
    let after = post_of a k xs in
    let front : take a all ≡ take a xs = take-put_mid_below _ _ _ _ _ (le_refl _) within in
    let back : take n (drop a all) ≡ take n ys =
    ap (take n) (drop_at (take a xs) (ys ++ after) a (length-take-le a xs within))
    ∙ take-append-le n ys after fits in
    sym (take-add a n all ∙ ap (λ l. l ++ take n (drop a all)) front
    ∙ ap (λ l. take a xs ++ l) back)

-- the first n of what stands behind the first a
pub take_next : (a n : ℕ) (xs : List ℕ)
    → take a xs ++ take n (take (length xs - a) (drop a xs)) ≡ take (a + n) xs
take_next a n xs =
    ap (λ l. take a xs ++ take n l) (take_rest xs a) ∙ sym (take-add a n xs)
