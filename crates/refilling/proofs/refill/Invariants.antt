use mathlib.Core.Path.{◌≡◌}
use Prim.Native.Nat.{◌≤◌}
use lib.ListN.{length}
use Rattle.grammar.specs.Content.{rules_of}
use Rattle.marks.specs.Drafts.{half}
use Rattle.chart.specs.Filling.{FilledFrom}
use Rattle.refilling.specs.Kept.{Mirrored, Suits}
use Rattle.refilling.proofs.refill.Given as goal

abbrev pub invariant-loop-start : goal.invariant-loop-start
invariant-loop-start l = (l.start ≤ l.d.count)
    × FilledFrom l.initial.words l.words (rules_of l.g) (half l.d) l.d.count l.from l.start
    × Suits (rules_of l.g) l.words l.kept
    × Mirrored (rules_of l.g) l.d.count l.words l.kept
    × (length l.kept ≡ length l.initial.kept)
