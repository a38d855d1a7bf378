-- `lengths::append` meets its contract.
use mathlib.Core.Path.{subst}
use Rattle.grammar.specs.Content.{rules_of}
use Rattle.lengths.specs.Passes.{Open}
use Rattle.lengths.proofs.Growing.{open_exact}
use Rattle.lengths.proofs.Appending.{longer, held_longer, sound_longer, open_longer}
use Rattle.lengths.proofs.Appending.{appended}
use Rattle.lengths.proofs.append.Goals as goal

pub grow-w-requires : goal.grow-w-requires
grow-w-requires c = (c.requires.0.exact.shaped, c.requires.2)

pub returns-then-w-eq0 : goal.returns-then-w-eq0
returns-then-w-eq0 c =
    let w = c.grow-w in
    let a = c.args in
    appended a.b a.r c.requires.0 c.requires.1 c.requires.2
    (open_exact (sound_longer a.b a.r c.requires.0 c.requires.1 c.requires.2 w.ensures)
    (subst (Open (rules_of (longer a.b a.r c.requires.0 c.requires.1 c.requires.2))
    w.result.index) c.if-w-eq0.true
    (open_longer a.b a.r c.requires.0 c.requires.1 c.requires.2 w.ensures)))

pub completed-index-requires : goal.completed-index-requires
completed-index-requires c =
    let w = c.grow-w.ensures in
    let a = c.args in (
      held_longer a.b a.r c.requires.0 c.requires.1 c.requires.2,
      sound_longer a.b a.r c.requires.0 c.requires.1 c.requires.2 w,
      open_longer a.b a.r c.requires.0 c.requires.1 c.requires.2 w,
    )

pub returns : goal.returns
returns c =
    appended c.args.b c.args.r c.requires.0 c.requires.1 c.requires.2
    c.completed-index.ensures
