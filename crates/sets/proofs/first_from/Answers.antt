use mathlib.Core.Path.{◌≡◌}
use Prim.Native.Nat.{ℕ, ◌+◌, ◌≤◌, ◌<◌}
use native.Mathlib.Omega.{arith}
use native.Mathlib.Decide.{dec_le}
use borrow.Author.Rules.{rules}
use Rattle.sets.specs.Sets.{In}
use Rattle.sets.proofs.first_from.Goals as goal

-- t itself is no member
skip : {s from t : ℕ} → ((x : ℕ) → In s x → from ≤ x → t ≤ x) → (In s t → ⊥) → (x : ℕ) → In s x
    → from ≤ x → t + 1 ≤ x
skip {s} {from} {t} h n x b f = go (dec_le (t + 1) x)
  where
    go : Dec (t + 1 ≤ x) → t + 1 ≤ x
    go (yes k) = k
    go (no k) = absurd (n (let e : x ≡ t = omega (arith, h x b f) in rw e at b))

pub returns-then-has : goal.returns-then-has
returns-then-has c = (
  search rules,
  search rules,
  c.has.ensures.is c.if-has.true,
  c.loop-t.invariant.2,
)

pub loop-t-preserved : goal.loop-t-preserved
loop-t-preserved c = (
  search rules,
  search rules,
  skip c.loop-t.invariant.2
      (c.has.ensures.isnt c.if-has.false),
)

pub returns : goal.returns
returns c x l b = go (dec_le c.args.from x)
  where
    go : Dec (c.args.from ≤ x) → x < c.args.from
    go (yes k) = absurd (omega (arith, c.loop-t.invariant.2 x b k))
    go (no k) = omega arith
