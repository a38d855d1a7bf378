-- `equivalents::passable` meets its contract: a smaller terminal, or other positions.
use native.Mathlib.Omega.{arith}
use Rattle.sets.proofs.Says.{true_not_false}
use mathlib.Core.Path.{refl, sym}
use Rattle.equivalents.proofs.Passing.{pass_terminal, pass_earlier_twin, among_at}
use Rattle.equivalents.proofs.passable.Goals as goal

pub returns-then-b-h : goal.returns-then-b-h
returns-then-b-h c = λ e. absurd (true_not_false (sym e))

pub has-requires : goal.has-requires
has-requires c =
    (among_at c.args.n c.args.b c.args.h c.args.c _ (omega (arith, c.if-b-h.false))
    c.requires.b_le_n.0
    refl c.args.set c.args.kept c.requires.candidate).0

pub returns-then-not-has : goal.returns-then-not-has
returns-then-not-has c =
    λ q. pass_terminal c.args.n c.args.b c.args.h c.args.c _ (omega (arith, c.if-b-h.false))
    c.requires.b_le_n.0
    refl c.args.set c.args.kept c.requires.candidate
    (c.has.ensures.isnt c.if-not-has.true)

pub earlier_twin-requires : goal.earlier_twin-requires
earlier_twin-requires c =
    (omega (arith, c.if-b-h.false), c.requires.b_le_n.0, c.requires.b_le_n.1)

pub returns : goal.returns
returns c = λ e. pass_earlier_twin (c.earlier_twin.ensures e)
