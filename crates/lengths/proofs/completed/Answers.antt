use mathlib.Core.Path.{subst}
use native.Mathlib.Omega.{arith}
use Rattle.grammar.specs.Content.{rules_of}
use Rattle.lengths.specs.Passes.{Open}
use Rattle.lengths.proofs.Growing.{passed_open, open_exact, weight_small}
use Rattle.lengths.proofs.completed.Goals as goal

pub loop-new-init : goal.loop-new-init
loop-new-init c = (c.requires.1, c.requires.2)

pub pass-w-requires : goal.pass-w-requires
pass-w-requires c = (c.requires.0, c.loop-new.invariant.0, c.loop-new.invariant.1)

pub returns-then-new-eq0 : goal.returns-then-new-eq0
returns-then-new-eq0 c =
    let w = c.pass-w.ensures in
    open_exact w.sound
    (subst (Open (rules_of c.args.g) c.pass-w.result.index) c.if-new-eq0.true
    (passed_open c.requires.0 w))

pub loop-new-smaller : goal.loop-new-smaller
loop-new-smaller c =
    let w = c.pass-w.ensures in
    omega (
      arith,
      w.heavier c.if-new-eq0.false,
      weight_small c.pass-w.result.index w.sound.shaped,
    )

pub loop-new-preserved : goal.loop-new-preserved
loop-new-preserved c =
    (c.pass-w.ensures.sound, passed_open c.requires.0 c.pass-w.ensures)
