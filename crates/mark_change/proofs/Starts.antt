-- The walk to where a piece begins, byte by byte.
use mathlib.Core.Path.{◌≡◌, refl, sym}
use mathlib.Core.List.{List, [], ◌∷◌}
use Prim.Native.Nat.{ℕ, suc, ◌+◌, ◌-◌, ◌≤◌, ◌<◌}
use native.Mathlib.Nat.{zero-add}
use native.Mathlib.Numerals.{add-one}
use native.Mathlib.Omega.{arith}
use native.Mathlib.Decide.{dec_lt}
use lib.ListN.{length, get_or, drop, drop_of_length-le}
use lib.Seq.{drop-cons}
use borrow.Author.Tests.{eq-eqb, ne_eqb}
use Rattle.fields.specs.Pieces.{pieces, onto}
use Rattle.sheets.specs.RefusedLines.{piece_start}
use Rattle.fields.proofs.Cuts.{pieces_long}

-- the piece with n pieces before it begins where the piece with `left` before it from `at` on does
pub record Walking (s : List ℕ) (b n at left : ℕ) : Type 0 where
  pub low : at ≤ length s
  pub there : left < length (pieces b (drop at s))
  pub same : piece_start (pieces b s) n ≡ at + piece_start (pieces b (drop at s)) left

pub walking_start : (s : List ℕ) (b n : ℕ) → n < length (pieces b s) → Walking s b n 0 n
walking_start s b n h =
    record { low = omega arith; there = h; same = sym (zero-add (piece_start (pieces b s) n)) }

onto_long : (x : ℕ) (ps : List (List ℕ)) → 0 < length ps → length (onto x ps) ≡ length ps
onto_long x [] h = absurd (omega arith)
onto_long x (p ∷ ps) h = refl

onto_start : (x : ℕ) (ps : List (List ℕ)) (k : ℕ) → 0 < length ps
    → piece_start (onto x ps) (suc k) ≡ 1 + piece_start ps (suc k)
onto_start x [] k h = absurd (omega arith)
onto_start x (p ∷ ps) k h = omega arith

some_suc : (n : ℕ) → 0 < n → n ≡ suc (n - 1)
some_suc n h = omega arith

module _ {s : List ℕ} {b n at left : ℕ} (w : Walking s b n at left) (more : 0 < left) where
  -- a byte is left
  pub walking_in : at < length s
  walking_in = go (dec_lt at (length s))
    where
      go : Dec (at < length s) → at < length s
      go (yes h) = h
      go (no h) =
          let e : drop at s ≡ [] = drop_of_length-le s {i = at} (omega arith) in
          let t = w.there in
          absurd (omega (arith, rw e at t))

  cut : drop at s ≡ get_or s at 0 ∷ drop (at + 1) s
  cut = rw (add-one at) (drop-cons s at 0 walking_in)

  pub walking_hit : get_or s at 0 ≡ b → Walking s b n (at + 1) (left - 1)
  walking_hit e =
      let j : pieces b (drop at s) ≡ [] ∷ pieces b (drop (at + 1) s) =
      rw (cut, eq-eqb (get_or s at 0) b e) in
      let t = w.there in
      let k = some_suc left more in
      let m : piece_start (pieces b (drop at s)) left ≡ 1
      + piece_start (pieces b (drop (at + 1) s)) (left - 1) =
      rw (j, k) (next (pieces b (drop (at + 1) s)) (left - 1)) in
      record {
        low = omega (arith, walking_in);
        there = omega (arith, rw j at t);
        same = omega (arith, w.same, m);
      }
    where
      next : (ps : List (List ℕ)) (k : ℕ)
          → piece_start ([] ∷ ps) (suc k) ≡ 1 + piece_start ps (suc k - 1)
      next ps k = let z : suc k - 1 ≡ k = omega arith in rw z (omega arith)

  pub walking_miss : (get_or s at 0 ≡ b → ⊥) → Walking s b n (at + 1) left
  walking_miss e =
      let ps = pieces b (drop (at + 1) s) in
      let j : pieces b (drop at s) ≡ onto (get_or s at 0) ps =
      rw (cut, ne_eqb (get_or s at 0) b e) in
      let t = w.there in
      let k = some_suc left more in
      let l = pieces_long b (drop (at + 1) s) in
      let m : piece_start (pieces b (drop at s)) left ≡ 1 + piece_start ps left =
      rw (j, k) (onto_start (get_or s at 0) ps (left - 1) l) in
      record {
        low = omega (arith, walking_in);
        there = omega (arith, rw j at t, onto_long (get_or s at 0) ps l);
        same = omega (arith, w.same, m);
      }

pub walking_end : {s : List ℕ} {b n at left : ℕ} → Walking s b n at left → left ≤ 0
    → at ≡ piece_start (pieces b s) n
walking_end {s} {b} {n} {at} {left} w h =
    let e : left ≡ 0 = omega arith in
    let z : piece_start (pieces b (drop at s)) left ≡ 0 = rw e in
    omega (arith, w.same, z)
