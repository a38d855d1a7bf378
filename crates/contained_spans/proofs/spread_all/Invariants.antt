-- The loop's invariant: the spans of the starts before `start` are worked off.
use mathlib.Core.Path.{◌≡◌}
use Prim.Native.Nat.{◌≤◌}
use lib.ListN.{length}
use Rattle.grammar.specs.Content.{rules_of}
use Rattle.marks.specs.Drafts.{drafted}
use Rattle.cut_tables.specs.Tables.{Columns}
use Rattle.contained_spans.specs.Seeing.{SeenColumns}
use Rattle.contained_spans.specs.Spreading.{Done}
use Rattle.contained_spans.proofs.spread_all.Given as goal

abbrev pub invariant-loop-start : goal.invariant-loop-start
invariant-loop-start l =
    (l.start ≤ l.d.count) × Columns l.words l.d.count l.cuts × SeenColumns l.d.count l.reach l.seen
    × Done (rules_of l.g) (drafted l.d) l.d.count l.start l.d.count l.reach l.parts
    × (length l.reach ≡ length l.initial.reach) × (length l.parts ≡ length l.initial.parts)
