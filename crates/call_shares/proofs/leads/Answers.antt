-- By its tests, one after the other.
use borrow.Author.Tests.{ltb-true, ltb-false}
use mathlib.Core.Path.{◌≡◌}
use mathlib.Core.Logic.{◌⊎◌, inl, inr}
use Prim.Native.Nat.{ℕ, ◌≤◌, ◌<◌}
use native.Mathlib.Omega.{arith}
use Rattle.sets.proofs.Says.{holds, fails}
use Rattle.call_shares.specs.Merge.{Leads}
use Rattle.call_shares.proofs.leads.Goals as goal

same_length : {n N m M : ℕ} → 1 ≤ n → n ≡ m → (Leads n N m M → N < M) × (N < M → Leads n N m M)
same_length {n} {N} {m} {M} h e =
    (λ l. go l.sooner, λ l. record { reports = h; sooner = inr (inr (e, l)) })
  where
    go : (m ≡ 0) ⊎ ((n < m) ⊎ ((n ≡ m) × (N < M))) → N < M
    go (inl z) = absurd (omega arith)
    go (inr (inl x)) = absurd (omega arith)
    go (inr (inr x)) = x.1

other_length : {n N m M : ℕ} → 1 ≤ n → (m ≡ 0 → ⊥) → (n ≡ m → ⊥)
    → (Leads n N m M → n < m) × (n < m → Leads n N m M)
other_length {n} {N} {m} {M} h k e =
    (λ l. go l.sooner, λ l. record { reports = h; sooner = inr (inl l) })
  where
    go : (m ≡ 0) ⊎ ((n < m) ⊎ ((n ≡ m) × (N < M))) → n < m
    go (inl z) = absurd (k z)
    go (inr (inl x)) = x
    go (inr (inr x)) = absurd (e x.0)

pub returns-then-n-eq0 : goal.returns-then-n-eq0
returns-then-n-eq0 c = fails (λ l. omega (arith, l.reports, c.if-n-eq0.true))

pub returns-then-m-eq0 : goal.returns-then-m-eq0
returns-then-m-eq0 c =
    holds (record { reports = omega (arith, c.if-n-eq0.false); sooner = inl c.if-m-eq0.true })

pub returns-then-n-m : goal.returns-then-n-m
returns-then-n-m c =
    let a = c.args in
    let q = same_length (omega (arith, c.if-n-eq0.false)) c.if-n-m.true in
    record {
      is = λ e. q.1 (ltb-true a.number a.other e);
      isnt =
          λ e l. omega (arith, ltb-false a.number a.other e, q.0 l);
    }

pub returns : goal.returns
returns c =
    let a = c.args in
    let q = other_length (omega (arith, c.if-n-eq0.false)) c.if-m-eq0.false
    c.if-n-m.false in
    record {
      is = λ e. q.1 (ltb-true a.n a.m e);
      isnt =
          λ e l. omega (arith, ltb-false a.n a.m e, q.0 l);
    }
