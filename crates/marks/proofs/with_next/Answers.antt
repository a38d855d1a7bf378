-- Past the known tokens nothing is asked.
use native.Mathlib.Omega.{arith}
use Rattle.marks.proofs.Joining.{grown}
use Rattle.marks.proofs.with_next.Goals as goal

pub returns-then-at-known : goal.returns-then-at-known
returns-then-at-known c = grown (record {
  counts = λ k. c.with_known.ensures;
  open_one = λ k. absurd (omega (arith, k, c.if-at-known.true));
})

pub returns-else-at-known : goal.returns-else-at-known
returns-else-at-known c = grown (record {
  counts = λ k. absurd (omega (arith, k, c.if-at-known.false));
  open_one = λ k. c.with_open.ensures;
})
