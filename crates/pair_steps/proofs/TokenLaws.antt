-- The terminals that are left at the points of a frame.
use mathlib.Core.Path.{◌≡◌, sym, ap, ◌∙◌, subst}
use Prim.Native.Nat.{ℕ, zero, suc, ◌+◌, ◌/◌, ◌%◌, ◌^◌, ◌≤◌, ◌<◌, min}
use native.Mathlib.Omega.{arith}
use native.Mathlib.Nat.{mod-eq_of_lt, div-eq_of_lt, div-one}
use native.Mathlib.Decide.{dec_lt, ℕ_discrete}
use lib.Bits.{bit_and, and_mask, or_zero_l}
use lib.Pow.{pow-lt, pow_mono}
use Rattle.sets.specs.Sets.{In}
use Rattle.sets.specs.Insertion.{insert}
use Rattle.sets.proofs.Sets.{in_zero, insert_same}
use Rattle.sets.proofs.Bits.{in_and}
use Rattle.pair_offsets.specs.declared.Frame.{Frame}
use Rattle.pair_steps.specs.declared.Node.{Node}
use Rattle.pair_steps.specs.declared.Words.{Words}
use Rattle.pair_steps.specs.Leaving.{Narrowed, first_stop_of, second_stop}
use Rattle.pair_steps.specs.Tokens.{all_terminals, BeginsLeave, NodesLeave, KidsLeave}
use Rattle.pair_steps.specs.Tokens.{TokensBy, TokensLeave}
use Rattle.pair_steps.specs.Tokens.{TokensMost, SomeAt, PointsHave, TokensFound}
use Rattle.pair_steps.proofs.NarrowLaws.{shift_in}

-- 1. members of a word

pub in_all : (z : ℕ) → z < 64 → In all_terminals z
unfolding insert
in_all z h =
    let e : bit_and (2 ^ z) all_terminals ≡ 2 ^ z = and_mask (2 ^ z) 64 ∙ mod-eq_of_lt (pow-lt h) in
    ((in_and (2 ^ z) all_terminals z).0
    (subst (λ (n : ℕ). In n z) (or_zero_l (2 ^ z) ∙ sym e) (insert_same 0 z))).1

-- a word below 2^64 has members below 64 only
pub in_low : (w z : ℕ) → w < 2 ^ 64 → In w z → z < 64
in_low w z b i = by (dec_lt z 64)
  where
    by : Dec (z < 64) → z < 64
    by (yes h) = h
    by (no h) =
        let h : 64 ≤ z = omega arith in
        let p : 2 ^ 64 ≤ 2 ^ z = pow_mono h in
        let e : w / 2 ^ z ≡ 0 = div-eq_of_lt (omega arith) in
        absurd (omega (arith, i.digit, ap (λ (n : ℕ). n % 2) e))

pub all_low : (z : ℕ) → In all_terminals z → z < 64
all_low z i = in_low all_terminals z (omega arith) i

some_from : (fuel w : ℕ) → w ≤ fuel → (w ≡ 0 → ⊥) → (z : ℕ) × In w z
some_from zero w h n = absurd (n (omega arith))
some_from (suc fuel) w h n = by (some_from fuel (w / 2)) (ℕ_discrete (w % 2) 1)
  where
    by : (w / 2 ≤ fuel → (w / 2 ≡ 0 → ⊥) → (z : ℕ) × In (w / 2) z) → Dec (w % 2 ≡ 1)
        → (z : ℕ) × In w z
    by f (yes e) = (0, record { digit = ap (λ (n : ℕ). n % 2) (div-one w) ∙ e })
    by f (no e) =
        let r = f (omega arith) (λ z. n (omega arith)) in
        (1 + r.0, shift_in w 1 r.0 r.1)

-- a word that is not 0 has a member
pub some_in : (w : ℕ) → (w ≡ 0 → ⊥) → (z : ℕ) × In w z
some_in w n = some_from w w (omega arith) n

pub min_low : (a b : ℕ) → a < b → a ≡ min a b
min_low a b h = omega arith

pub min_high : (a b : ℕ) → (a < b → ⊥) → b ≡ min a b
min_high a b h = omega arith

-- 2. what is left at a point

module _ (f : Frame) (x y : Node) (n : Words) where
  pub tokens_narrow : {t v u s r a b c : ℕ} → t ≡ first_stop_of x.kids f.cut f.stop
      → v ≡ first_stop_of y.kids f.split f.end → u ≡ second_stop x.kids f.stop
      → s ≡ second_stop y.kids f.end → Narrowed all_terminals (BeginsLeave f x y r) a
      → Narrowed a (NodesLeave f t v u s n r) b → Narrowed b (KidsLeave f t v u s n r) c
      → Narrowed all_terminals (TokensLeave f x y n r) c
  tokens_narrow {t} {v} {u} {s} {r} {a} {b} {c} et ev eu es p q o =
      record {
        keeps = λ z i e.
            let d : TokensBy f x y n t v u s r z = rw (et, ev, eu, es) e in
            o.keeps z (q.keeps z (p.keeps z i d.begins) d.nodes) d.kids;
        only = λ z i.
            let k = o.only z i in
            let j = q.only z k.0 in
            let h = p.only z j.0 in
            let d : TokensBy f x y n t v u s r z =
            record { begins = h.1; nodes = j.1; kids = k.1 } in
            (h.0, rw (et, ev, eu, es) at d);
      }

  -- a set that is not 0 has one, and one that is 0 has none
  has_some : {r a : ℕ} → Narrowed all_terminals (TokensLeave f x y n r) a → (a ≡ 0 → ⊥)
      → SomeAt f x y n r
  has_some {r} {a} p h =
      let z = some_in a h in
      let q = p.only z.0 z.1 in
      record { terminal = z.0; low = all_low z.0 q.0; leaves = q.1 }

  has_none : {r a : ℕ} → Narrowed all_terminals (TokensLeave f x y n r) a → a ≡ 0 → SomeAt f x y n r
      → ⊥
  has_none p e s =
      in_zero s.terminal (rw e at (p.keeps s.terminal (in_all s.terminal s.low)
      s.leaves))

  found_none : (PointsHave f x y n → ⊥) → TokensFound f x y n 0
  found_none h = record { all = λ s z l e. absurd (h s); only = λ z i. absurd (in_zero z i) }

  -- none is left at a point
  pub none_at : (r : ℕ) → (PointsHave f x y n → SomeAt f x y n r) → {a : ℕ}
      → Narrowed all_terminals (TokensLeave f x y n r) a → a ≡ 0 → TokensFound f x y n 0
  none_at r h p e = found_none (λ s. has_none p e (h s))

  abbrev Left : ℕ → ℕ → Type 0
  Left r a = Narrowed all_terminals (TokensLeave f x y n r) a × (a ≡ 0 → ⊥)

  pub found_some : {a b c d e k r m : ℕ} → Left f.start a → Left f.cut b → Left f.begin c
      → Left f.split d → Left f.stop e → Left f.end k → m ≡ min f.stop f.end
      → Narrowed all_terminals (TokensLeave f x y n m) r → TokensFound f x y n r
  found_some p₁ p₂ p₃ p₄ p₅ p₆ eq p =
      record {
        all = λ s z l e. p.keeps z (in_all z l) (rw eq e);
        only = λ z i.
            let q = p.only z i in (
              record {
                start = has_some p₁.0 p₁.1;
                cut = has_some p₂.0 p₂.1;
                begin = has_some p₃.0 p₃.1;
                split = has_some p₄.0 p₄.1;
                stop = has_some p₅.0 p₅.1;
                end = has_some p₆.0 p₆.1;
              },
              all_low z q.0,
              rw eq at q.1,
            );
      }

-- at most
pub tokens-most : {f : Frame} {x y : Node} {n : Words} {r q : ℕ} → r ≡ min f.stop f.end
    → Narrowed all_terminals (TokensLeave f x y n r) q → TokensMost f x y n q
tokens-most {f} {x} {y} {n} e l =
    record {
      has =
          λ z h p. l.keeps z (in_all z h) (subst (λ (m : ℕ). TokensLeave f x y n m z) (sym e) p);
    }
