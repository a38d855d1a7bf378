use mathlib.Core.Path.{sym, ap, subst}
use Prim.Native.Nat.{ℕ}
use native.Mathlib.Omega.{arith}
use Rattle.grammar.specs.declared.Token.{Token}
use Rattle.marks.specs.Drafts.{half}
use Rattle.marks.specs.Marked.{Carried, Marked}
use Rattle.marks.proofs.DraftLaws.{drafted_at}
use Rattle.marks.proofs.Joining.{carried_all, next_carried, no_tokens}
use Rattle.marks.proofs.span_marks.Goals as goal

pub returns-then-len-eq0 : goal.returns-then-len-eq0
returns-then-len-eq0 c =
    let z = c.args in
    subst (Marked (half z.d) z.start z.len) (sym c.first_marks.ensures.same)
    (no_tokens _ _ _ _ _ c.if-len-eq0.true)

pub loop-left-init : goal.loop-left-init
loop-left-init c =
    let z = c.args in (
      omega arith,
      omega (arith, c.if-len-eq0.false),
      c.first_marks-k.ensures.carried (half z.d) z.start
          (ap (λ (t : Token). t.terminal)
          (sym (drafted_at z.d z.start (omega arith))))
          (ap (λ (t : Token). t.column)
          (sym (drafted_at z.d z.start (omega arith)))),
    )

pub loop-left-preserved : goal.loop-left-preserved
loop-left-preserved c =
    let i = c.loop-left.invariant in (
      omega arith,
      omega arith,
      next_carried c.args.d _ _ _ _ i.0 (omega arith) c.with_next-k.ensures i.2,
    )

pub returns : goal.returns
returns c =
    let z = c.args in
    let l = c.loop-left in
    carried_all _ _ _ _ (subst (λ (x : ℕ). Carried (half z.d) z.start x l.k)
    (omega (arith, c.loop-left-test.false)) l.invariant.2)
