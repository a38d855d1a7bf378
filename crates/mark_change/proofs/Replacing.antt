-- Pieces of bytes in which one piece is replaced.
use mathlib.Core.Path.{◌≡◌, refl, sym, ◌∙◌}
use mathlib.Core.List.{List, [], ◌∷◌, ◌++◌, append_assoc, append-nil}
use Prim.Native.Nat.{ℕ, zero, suc, ◌+◌, ◌≤◌, ◌<◌}
use native.Mathlib.Nat.{zero-add}
use native.Mathlib.Omega.{arith}
use lib.ListN.{length, take, drop, get_or, set, length-append}
use lib.Seq.{take-append-add, drop-append-add, set_split, drop-append_seam}
use borrow.Author.Tests.{eq-eqb}
use Rattle.fields.specs.Pieces.{pieces, before}
use Rattle.fields.proofs.Cuts.{FreeOf, pieces_free, pieces_cut, Cut, whole, after, cut_of}
use Rattle.sheets.specs.RefusedLines.{piece_start}

module _ (b : ℕ) where
  front : (u v : List ℕ) (k : ℕ) → take (length u + 1 + k) (u ++ b ∷ v) ≡ u ++ b ∷ take k v
  front u v k =
      let e : length u + 1 + k ≡ length u + suc k = omega arith in
      rw (e, take-append-add u (b ∷ v) (suc k))

  back : (u v : List ℕ) (k : ℕ) → drop (length u + 1 + k) (u ++ b ∷ v) ≡ drop k v
  back u v k =
      let e : length u + 1 + k ≡ length u + suc k = omega arith in
      rw (e, drop-append-add u (b ∷ v) (suc k))

  -- the bytes before piece n, and others behind them
  pub pieces_upto : (n : ℕ) (s z : List ℕ) → n < length (pieces b s)
      → pieces b (take (piece_start (pieces b s) n) s ++ z) ≡ take n (pieces b s) ++ pieces b z
  pieces_upto zero s z h = refl
  pieces_upto (suc n) s z h = go (λ v. pieces_upto n v z) (cut_of b s) h
    where
      go : ((v : List ℕ) → n < length (pieces b v)
          → pieces b (take (piece_start (pieces b v) n) v ++ z) ≡ take n (pieces b v) ++ pieces b z)
          → {r : List ℕ} → Cut b r → suc n < length (pieces b r)
          → pieces b (take (piece_start (pieces b r) (suc n)) r ++ z) ≡ take (suc n) (pieces b r)
          ++ pieces b z
      go again (whole r f) h = absurd (omega (arith, rw (pieces_free b r f) at h))
      go again (after u v f) h =
          let k : suc n < length (u ∷ pieces b v) = rw (pieces_cut b u v f) at h in
          rw (
            pieces_cut b u v f,
            front u v (piece_start (pieces b v) n),
            append_assoc u
                (b ∷ take (piece_start (pieces b v) n) v) z,
            pieces_cut b u
                (take (piece_start (pieces b v) n) v ++ z) f,
            again v (omega arith),
          ) refl

  -- what stands behind piece n, after other bytes without b
  pub pieces_behind : (n : ℕ) (s x : List ℕ) → FreeOf b x → n < length (pieces b s)
      → pieces b (x ++ drop (piece_start (pieces b s) n + length (get_or (pieces b s) n [])) s) ≡ x
      ∷ drop (suc n) (pieces b s)
  pieces_behind zero s x f h = go (cut_of b s)
    where
      go : {r : List ℕ} → Cut b r → pieces b
          (x ++ drop (piece_start (pieces b r) 0 + length (get_or (pieces b r) 0 [])) r) ≡ x
          ∷ drop 1 (pieces b r)
      go (whole r g) =
          let e : drop (length r) r ≡ [] = rw append-nil at (drop-append_seam r []) in
          rw (pieces_free b r g, zero-add (length r), e, append-nil x) (pieces_free b x f)
      go (after u v g) = rw (pieces_cut b u v g, zero-add (length u), drop-append_seam u (b ∷ v))
          (pieces_cut b x v f)
  pieces_behind (suc n) s x f h = go (λ v. pieces_behind n v x f) (cut_of b s) h
    where
      go : ((v : List ℕ) → n < length (pieces b v)
          → pieces b (x ++ drop (piece_start (pieces b v) n + length (get_or (pieces b v) n [])) v)
          ≡ x
          ∷ drop (suc n) (pieces b v)) → {r : List ℕ} → Cut b r → suc n < length (pieces b r)
          → pieces b (x ++ drop (piece_start (pieces b r) (suc n)
          + length (get_or (pieces b r) (suc n) [])) r) ≡ x
          ∷ drop (suc (suc n)) (pieces b r)
      go again (whole r g) h = absurd (omega (arith, rw (pieces_free b r g) at h))
      go again (after u v g) h =
          let k : suc n < length (u ∷ pieces b v) = rw (pieces_cut b u v g) at h in
          let a = piece_start (pieces b v) n in
          let l = length (get_or (pieces b v) n []) in
          let e : length u + 1 + a + l ≡ length u + 1 + (a + l) = omega arith in
          rw (pieces_cut b u v g, e, back u v (a + l), again v (omega arith)) refl

  -- one piece replaced by bytes without b
  pub pieces_replaced : (n : ℕ) (s x : List ℕ) → FreeOf b x → n < length (pieces b s)
      → pieces b (take (piece_start (pieces b s) n) s
      ++ (x ++ drop (piece_start (pieces b s) n + length (get_or (pieces b s) n [])) s))
      ≡ set (pieces b s) n x
  pieces_replaced n s x f h =
      pieces_upto n s (x ++ drop (piece_start (pieces b s) n + length (get_or (pieces b s) n [])) s)
      h
      ∙ rw (pieces_behind n s x f h) (sym (set_split (pieces b s) n x h))

  -- piece n stands where it begins, and has no b
  pub record PieceAt (n : ℕ) (s : List ℕ) : Type 0 where
    pub rest : List ℕ
    pub at : drop (piece_start (pieces b s) n) s ≡ get_or (pieces b s) n [] ++ rest
    pub within : piece_start (pieces b s) n ≤ length s
    pub free : FreeOf b (get_or (pieces b s) n [])

  piece_next : (n : ℕ) (u v : List ℕ) → FreeOf b u → PieceAt n v → PieceAt (suc n) (u ++ b ∷ v)
  piece_next n u v g p = record {
    rest = p.rest;
    at = rw (pieces_cut b u v g, back u v (piece_start (pieces b v) n)) p.at;
    within = rw (pieces_cut b u v g) (omega (arith, length-append u (b ∷ v), p.within));
    free = rw (pieces_cut b u v g) p.free;
  }

  pub piece_at : (n : ℕ) (s : List ℕ) → n < length (pieces b s) → PieceAt n s
  piece_at zero s h = go (cut_of b s)
    where
      go : {r : List ℕ} → Cut b r → PieceAt zero r
      go (whole r g) = record {
        rest = [];
        at = rw (pieces_free b r g) (sym (append-nil r));
        within = omega arith;
        free = rw (pieces_free b r g) g;
      }
      go (after u v g) = record {
        rest = b ∷ v;
        at = rw (pieces_cut b u v g) refl;
        within = omega
            arith;
        free = rw (pieces_cut b u v g) g;
      }
  piece_at (suc n) s h = go (λ v. piece_at n v) (cut_of b s) h
    where
      go : ((v : List ℕ) → n < length (pieces b v) → PieceAt n v) → {r : List ℕ} → Cut b r
          → suc n < length (pieces b r) → PieceAt (suc n) r
      go again (whole r g) h = absurd (omega (arith, rw (pieces_free b r g) at h))
      go again (after u v g) h =
          let k : suc n < length (u ∷ pieces b v) = rw (pieces_cut b u v g) at h in
          piece_next n u v g (again v (omega arith))

  pub free_take : (k : ℕ) (u : List ℕ) → FreeOf b u → FreeOf b (take k u)
  free_take zero u h = tt
  free_take (suc k) [] h = tt
  free_take (suc k) (x ∷ u) h = (h.0, free_take k u h.1)

  pub free_join : (u v : List ℕ) → FreeOf b u → FreeOf b v → FreeOf b (u ++ v)
  free_join [] v h k = k
  free_join (x ∷ u) v h k = (h.0, free_join u v h.1 k)

  before_free : (u : List ℕ) → FreeOf b u → before b u ≡ u
  before_free [] h = refl
  before_free (x ∷ u) h = rw (h.0, before_free u h.1)

  before_cut : (u v : List ℕ) → FreeOf b u → before b (u ++ b ∷ v) ≡ u
  before_cut [] v h = rw (eq-eqb b b refl)
  before_cut (x ∷ u) v h = rw (h.0, before_cut u v h.1)

  -- piece n is what stands before the next b from its start on
  pub piece_before : (n : ℕ) (s : List ℕ) → n < length (pieces b s)
      → before b (drop (piece_start (pieces b s) n) s) ≡ get_or (pieces b s) n []
  piece_before zero s h = go (cut_of b s)
    where
      go : {r : List ℕ} → Cut b r → before b (drop (piece_start (pieces b r) 0) r)
          ≡ get_or (pieces b r) 0 []
      go (whole r g) = rw (pieces_free b r g) (before_free r g)
      go (after u v g) = rw (pieces_cut b u v g) (before_cut u v g)
  piece_before (suc n) s h = go (λ v. piece_before n v) (cut_of b s) h
    where
      go : ((v : List ℕ) → n < length (pieces b v)
          → before b (drop (piece_start (pieces b v) n) v) ≡ get_or (pieces b v) n [])
          → {r : List ℕ}
          → Cut b r → suc n < length (pieces b r)
          → before b (drop (piece_start (pieces b r) (suc n)) r)
          ≡ get_or (pieces b r) (suc n) []
      go again (whole r g) h = absurd (omega (arith, rw (pieces_free b r g) at h))
      go again (after u v g) h =
          let k : suc n < length (u ∷ pieces b v) = rw (pieces_cut b u v g) at h in
          rw (pieces_cut b u v g, back u v (piece_start (pieces b v) n)) (again v (omega arith))
