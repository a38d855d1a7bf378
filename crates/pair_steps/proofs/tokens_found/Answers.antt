use Rattle.pair_steps.proofs.TokenLaws.{none_at, found_some, min_low, min_high}
use native.Mathlib.Omega.{arith}
use Rattle.pair_steps.proofs.tokens_found.Goals as goal

pub returns-then-a-eq0 : goal.returns-then-a-eq0
returns-then-a-eq0 c = none_at _ _ _ _ _ (λ s. s.start) c.tokens_at-a.ensures c.if-a-eq0.true

pub tokens_beside-requires : goal.tokens_beside-requires
tokens_beside-requires c = c.tokens_at-a.ensures

pub returns-then-tokens_beside-eq0 : goal.returns-then-tokens_beside-eq0
returns-then-tokens_beside-eq0 c =
    none_at _ _ _ _ _ (λ s. s.cut) c.tokens_beside.ensures c.if-tokens_beside-eq0.true

pub tokens_beside-b-requires : goal.tokens_beside-b-requires
tokens_beside-b-requires c = c.tokens_at-a.ensures

pub returns-then-b-eq0 : goal.returns-then-b-eq0
returns-then-b-eq0 c = none_at _ _ _ _ _ (λ s. s.begin) c.tokens_beside-b.ensures c.if-b-eq0.true

pub tokens_beside-requires-2 : goal.tokens_beside-requires-2
tokens_beside-requires-2 c = c.tokens_beside-b.ensures

pub returns-then-tokens_beside-eq0-2 : goal.returns-then-tokens_beside-eq0-2
returns-then-tokens_beside-eq0-2 c =
    none_at _ _ _ _ _ (λ s. s.split) c.tokens_beside-2.ensures c.if-tokens_beside-eq0-2.true

pub returns-then-c-eq0 : goal.returns-then-c-eq0
returns-then-c-eq0 c = none_at _ _ _ _ _ (λ s. s.stop) c.tokens_at-c.ensures c.if-c-eq0.true

pub tokens_beside-d-requires : goal.tokens_beside-d-requires
tokens_beside-d-requires c = c.tokens_at-c.ensures

pub returns-then-d-eq0 : goal.returns-then-d-eq0
returns-then-d-eq0 c = none_at _ _ _ _ _ (λ s. s.end) c.tokens_beside-d.ensures c.if-d-eq0.true

pub returns-then-f : goal.returns-then-f
returns-then-f c =
    found_some _ _ _ _ (
      c.tokens_at-a.ensures,
      c.if-a-eq0.false,
    ) (
      c.tokens_beside.ensures,
      c.if-tokens_beside-eq0.false,
    ) (
      c.tokens_beside-b.ensures,
      c.if-b-eq0.false,
    ) (
      c.tokens_beside-2.ensures,
      c.if-tokens_beside-eq0-2.false,
    ) (
      c.tokens_at-c.ensures,
      c.if-c-eq0.false,
    ) (
      c.tokens_beside-d.ensures,
      c.if-d-eq0.false,
    ) (min_low _ _ (omega
    (arith, c.if-f.true))) c.tokens_at-c.ensures

pub returns : goal.returns
returns c =
    found_some _ _ _ _ (
      c.tokens_at-a.ensures,
      c.if-a-eq0.false,
    ) (
      c.tokens_beside.ensures,
      c.if-tokens_beside-eq0.false,
    ) (
      c.tokens_beside-b.ensures,
      c.if-b-eq0.false,
    ) (
      c.tokens_beside-2.ensures,
      c.if-tokens_beside-eq0-2.false,
    ) (
      c.tokens_at-c.ensures,
      c.if-c-eq0.false,
    ) (
      c.tokens_beside-d.ensures,
      c.if-d-eq0.false,
    ) (min_high _ _ (omega
    (arith, c.if-f.false))) c.tokens_beside-d.ensures
