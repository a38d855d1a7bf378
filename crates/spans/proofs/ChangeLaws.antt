-- Laws of changes: they are put together, and what a store gives.
use mathlib.Core.Path.{◌≡◌, refl, sym, ap, ◌∙◌}
use mathlib.Core.List.{List}
use Prim.Native.Nat.{ℕ, ◌+◌, ◌-◌, ◌*◌, ◌≤◌, ◌<◌}
use native.Mathlib.Nat.{not-suc-le-zero}
use native.Mathlib.Omega.{arith}
use native.Mathlib.Decide.{ℕ_discrete}
use lib.ListN.{length, get_or, drop, set, length-set, length-drop, take, replicate}
use lib.ListN.{length-replicate}
use lib.ListN.{get_or-replicate}
use lib.Seq.{get_or-set_same, get_or-set_other, get_or-drop, ext_get_or, length-take-le}
use lib.Seq.{get_or-take}
use Rattle.grammar.specs.SpanSheet.{pairs, pair_at}
use Rattle.spans.specs.Changes.{Past, Cleared, Kept, WrotePair}
use Rattle.spans.proofs.Places.{pair_at_below}

pub past_same : (k : ℕ) (ws : List ℕ) → Past k ws ws
past_same k ws = record { long = refl; rest = λ q h. refl }

pub past_then : {k : ℕ} {ws ws' ws'' : List ℕ} → Past k ws ws' → Past k ws' ws'' → Past k ws ws''
past_then a b = record { long = b.long ∙ a.long; rest = λ q h. b.rest q h ∙ a.rest q h }

-- from a later word on, too
pub past_more : {k m : ℕ} {ws ws' : List ℕ} → k ≤ m → Past k ws ws' → Past m ws ws'
past_more h a = record { long = a.long; rest = λ q l. a.rest q (omega arith) }

-- the same, as one equation
pub past_drop : {k : ℕ} {ws ws' : List ℕ} → Past k ws ws' → drop k ws' ≡ drop k ws
past_drop {k} {ws} {ws'} a =
    ext_get_or 0 (drop k ws') (drop k ws)
    (length-drop k ws' ∙ ap (λ (n : ℕ). n - k) a.long ∙ sym (length-drop k ws))
    (λ i h. get_or-drop k ws' i 0 ∙ a.rest (k + i) (omega arith) ∙ sym (get_or-drop k ws i 0))

pub cleared_none : (ws : List ℕ) → Cleared ws ws 0
cleared_none ws = record { zeros = λ q h. absurd (not-suc-le-zero h); past = past_same 0 ws }

pub cleared_more : (ws ws' : List ℕ) (n : ℕ) → n < length ws → Cleared ws ws' n
    → Cleared ws (set ws' n 0) (n + 1)
cleared_more ws ws' n h c = record {
  zeros = λ q l. go q l (ℕ_discrete q n);
  past = record {
    long = length-set ws' n 0 ∙ c.past.long;
    rest = λ q l. get_or-set_other ws' n q 0
        0 (omega arith) ∙ c.past.rest q (omega arith);
  };
}
  where
    go : (q : ℕ) → q < n + 1 → Dec (q ≡ n) → get_or (set ws' n 0) q 0 ≡ 0
    go q l (yes e) = ap (λ (x : ℕ). get_or (set ws' n 0) x 0) e
        ∙ get_or-set_same ws' n 0 0 (omega (arith, c.past.long))
    go q l (no k) = get_or-set_other ws' n q 0 0 k ∙ c.zeros q (omega arith)

-- a pair of the sheet is none of the words past it
pub kept_past : {ws ws' : List ℕ} (n start len : ℕ) → start + len ≤ n
    → Kept ws ws' (pair_at n start len) → Past (2 * pairs n) ws ws'
kept_past n start len h k =
    let l = pair_at_below n start len h in
    record { long = k.long; rest = λ q m. k.rest q (omega arith) (omega arith) }

pub wrote : (ws : List ℕ) (p a b : ℕ) → 2 * p + 1 < length ws
    → WrotePair ws (set (set ws (2 * p) a) (2 * p + 1) b) p a b
wrote ws p a b h = record {
  kept = record {
    long = length-set (set ws (2 * p) a) (2 * p + 1) b ∙ length-set ws (2 * p) a;
    rest = λ q m n. get_or-set_other (set ws (2 * p) a) (2 * p + 1) q b 0 n
        ∙ get_or-set_other ws (2 * p) q a 0 m;
  };
  first = get_or-set_other (set ws (2 * p) a) (2 * p + 1) (2 * p) b 0 (omega arith)
      ∙ get_or-set_same ws (2 * p) a 0 (omega arith);
  second = get_or-set_same (set ws (2 * p) a) (2 * p + 1) b 0
      (omega (arith, length-set ws (2 * p) a));
}

-- words that were cleared are 0
pub zeroed : (m : ℕ) (ws ws' : List ℕ) → m ≤ length ws' → Cleared ws ws' m
    → take m ws' ≡ replicate m 0
zeroed m ws ws' h c =
    let e = length-take-le m ws' h in
    ext_get_or 0 (take m ws') (replicate m 0) (e ∙ sym (length-replicate m 0))
    (λ i l.
    let j : i < m = omega arith in
    get_or-take m ws' i 0 j ∙ c.zeros i j ∙ sym (get_or-replicate m i 0 0 j))
