use native.Mathlib.Omega.{arith}
use mathlib.Core.Path.{sym, ap, ◌∙◌}
use mathlib.Core.Bool.{false, not}
use Prim.Native.Nat.{ℕ, ◌+◌}
use Rattle.candidates.specs.Arrays.{cells}
use Rattle.equivalents.proofs.Lacking.{lacking_used, lacking_want, lacking_else, lacking_le}
use Rattle.equivalents.proofs.lacks.Goals.{then-uses, else-uses+then-w, else-uses+else-w}
use Rattle.equivalents.proofs.lacks.Goals as goal

pub loop-j-init : goal.loop-j-init
loop-j-init c = (omega arith, omega arith)

pub overflow_add-v : goal.overflow_add-v
overflow_add-v c =
    omega (
      arith,
      c.loop-j.invariant.1,
      lacking_le (cells c.args.c 0 c.args.h)
          (cells c.args.c 0 c.args.b) c.args.n false,
      c.requires.2,
    )

pub loop-j-preserved : goal.loop-j-preserved
loop-j-preserved c = (
  omega arith,
  elim c.if-uses.branch [
    | then-uses w ↦
        rw (w.w-is, w.v-is) (c.loop-j.invariant.1 ∙ ap (λ (x : ℕ). c.loop-j.v + x)
        (lacking_used (cells c.args.c 0 c.args.h) (cells c.args.c 0 c.args.b)
        c.loop-j.j c.loop-j.w (not w.uses-w.result) (omega arith)
        (sym c.uses.ensures ∙ w.if-uses.true) (ap not w.uses-w.ensures)))
    | else-uses+then-w w ↦
        let e = lacking_want (cells c.args.c 0 c.args.h) (cells c.args.c 0 c.args.b)
        c.loop-j.j c.loop-j.w (omega arith) (sym c.uses.ensures ∙ w.if-uses.false) w.if-w.true in
        rw (w.w-is, w.v-is) (omega (arith, c.loop-j.invariant.1, e))
    | else-uses+else-w w ↦
        let e = lacking_else (cells c.args.c 0 c.args.h) (cells c.args.c 0 c.args.b)
        c.loop-j.j c.loop-j.w (omega arith) (sym c.uses.ensures ∙ w.if-uses.false) w.if-w.false in
        rw (w.w-is, w.v-is) (omega (arith, c.loop-j.invariant.1, e))
  ],
)

pub returns : goal.returns
returns c =
    omega (
      arith,
      c.loop-j.invariant.1,
      lacking_le (cells c.args.c 0 c.args.h)
          (cells c.args.c 0 c.args.b) c.loop-j.j c.loop-j.w,
      c.loop-j-test.false,
    )
