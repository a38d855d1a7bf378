use mathlib.Core.Path.{◌≡◌}
use native.Mathlib.Omega.{arith}
use Rattle.grammar.specs.Content.{rules_of}
use Rattle.dominance.proofs.LeftSets.{spares_none, spared_of}
use Rattle.dominance.proofs.needed.Goals as goal

pub loop-x-init : goal.loop-x-init
loop-x-init c = (omega arith, spares_none (rules_of c.args.g) c.args.set)

pub with_needed-kept-requires : goal.with_needed-kept-requires
with_needed-kept-requires c =
    record { formed = c.requires; x_bound = omega arith; spares = c.loop-x.invariant.1 }

pub loop-x-preserved : goal.loop-x-preserved
loop-x-preserved c = (omega arith, c.with_needed-kept.ensures)

pub returns : goal.returns
returns c =
    let e : c.loop-x.x ≡ 64 = omega (arith, c.loop-x-test.false, c.loop-x.invariant.0) in
    spared_of (rules_of c.args.g) c.args.set c.loop-x.kept
    (rw e at c.loop-x.invariant.1)
