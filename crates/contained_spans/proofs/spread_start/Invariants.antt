-- The loop's invariant: the spans of this start that are longer than `len`, and those of the starts
-- before, are worked off.
use mathlib.Core.Path.{◌≡◌}
use Prim.Native.Nat.{◌+◌, ◌≤◌}
use lib.ListN.{length}
use Rattle.grammar.specs.Content.{rules_of}
use Rattle.marks.specs.Drafts.{drafted}
use Rattle.cut_tables.specs.Tables.{CutTable}
use Rattle.contained_spans.specs.Seeing.{SeenAt}
use Rattle.contained_spans.specs.Spreading.{Done}
use Rattle.contained_spans.proofs.spread_start.Given as goal

abbrev pub invariant-loop-len : goal.invariant-loop-len
invariant-loop-len l =
    (l.start + l.len ≤ l.d.count) × CutTable l.words l.d.count l.start l.cuts
    × SeenAt l.d.count l.start l.reach l.seen
    × Done (rules_of l.g) (drafted l.d) l.d.count l.start l.len l.reach l.parts
    × (length l.reach ≡ length l.initial.reach) × (length l.parts ≡ length l.initial.parts)
