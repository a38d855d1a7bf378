-- Nothing is said of what was passed; the one that serves is the answer.
use mathlib.Core.Path.{sym}
use native.Mathlib.Omega.{arith}
use Rattle.sets.proofs.Says.{true_not_false}
use Rattle.dominance.proofs.LeftSets.{replaced_of}
use Rattle.dominance.proofs.replaced.Goals as goal

pub serves-requires : goal.serves-requires
serves-requires c =
    record { formed = c.requires.formed; y_bound = omega (arith, c.requires.x_bound) }

pub returns-then-serves : goal.returns-then-serves
returns-then-serves c =
    let l = c.lefts-s in
    λ e. replaced_of c.args.g c.requires.formed c.args.kept l.result c.args.x
    c.loop-y.y c.loop-y-test.true l.ensures
    (c.serves.ensures c.if-serves.true)

pub returns : goal.returns
returns c = λ e. absurd (true_not_false (sym e))
