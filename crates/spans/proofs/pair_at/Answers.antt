-- The closed form of the spans before.
use Prim.Native.Nat.{◌-◌, ◌*◌, ◌+◌, ◌≤◌}
use mathlib.Core.Path.{sym, ap, ◌∙◌}
use native.Mathlib.Omega.{arith}
use Rattle.grammar.specs.SpanSheet.{pair_at}
use Rattle.spans.proofs.Places.{spans_closed, spans_bound, pair_at_of, pair_at_empty}
use Rattle.spans.proofs.pair_at.Goals.{Else-len-eq0}
use Rattle.spans.proofs.pair_at.Goals as goal

pub returns-then-len-eq0 : goal.returns-then-len-eq0
returns-then-len-eq0 c = sym (ap (pair_at c.args.n c.args.start) c.if-len-eq0.true
    ∙ pair_at_empty _ _)

bound : (c : Else-len-eq0) → (c.args.len - 1)
    * (2 * c.args.n + 1 - (c.args.len - 1))
    ≤ 64 * (2 * c.args.n + 1 - (c.args.len - 1))
bound c = spans_bound c.args.n (c.args.len - 1) (omega arith) (omega arith)

pub overflow_mul-result-2 : goal.overflow_mul-result-2
overflow_mul-result-2 c = omega (arith, bound c)

pub overflow_add-result-2 : goal.overflow_add-result-2
overflow_add-result-2 c = omega (arith, bound c)

pub overflow_add-result-3 : goal.overflow_add-result-3
overflow_add-result-3 c = omega (arith, bound c)

pub returns : goal.returns
returns c = omega (
  arith,
  spans_closed c.args.n (c.args.len - 1)
      (omega arith),
  pair_at_of c.args.n c.args.start c.args.len
      (omega arith),
)
