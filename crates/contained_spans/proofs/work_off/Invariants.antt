-- The loop's invariant: `done` is worked off but for the rules of `a` from `i` on. The measure is
-- what `done` can still grow by, then the rules to come.
use mathlib.Core.Path.{◌≡◌}
use Prim.Native.Nat.{◌+◌, ◌-◌, ◌*◌, ◌^◌, ◌<◌}
use lib.ListN.{length}
use Rattle.grammar.specs.Content.{rules_of}
use Rattle.contained_spans.specs.Seeing.{SeenAt}
use Rattle.contained_spans.proofs.TurnLaws.{Trying}
use Rattle.contained_spans.proofs.work_off.Given as goal

abbrev pub invariant-loop-i : goal.invariant-loop-i
invariant-loop-i l =
    Trying l.words (rules_of l.g) l.n l.start l.len l.k l.initial.reach l.reach l.done l.parted l.a
    l.count l.i × (l.a < 64)
    × (length l.seen ≡ 4160) × (0 < l.len → SeenAt l.n l.start l.reach l.seen)

abbrev pub decreases-loop-i : goal.decreases-loop-i
decreases-loop-i l =
    200 * (2 ^ 64 - l.done) + (128 - l.i)
