-- `equivalents::slack` meets its contract, by its two rules.
use borrow.Author.Tests.{ltb-true}
use mathlib.Core.Path.{refl}
use native.Mathlib.Omega.{arith}
use Rattle.equivalents.proofs.Passing.{earlier_twin_step, earlier_twin_gap}
use Rattle.equivalents.proofs.earlier_twin.Goals as goal

pub returns-then-c-b-eq-LARGEST_STEP : goal.returns-then-c-b-eq-LARGEST_STEP
returns-then-c-b-eq-LARGEST_STEP c =
    λ e. earlier_twin_step c.args.n c.args.b c.args.h c.args.c _ c.requires.0
    c.requires.1
    refl c.if-c-b-eq-LARGEST_STEP.true

pub returns : goal.returns
returns c =
    λ e. earlier_twin_gap c.args.n c.args.b c.args.h c.args.c _ c.requires.0
    c.requires.1
    c.lacks.ensures (omega (arith, ltb-true))
