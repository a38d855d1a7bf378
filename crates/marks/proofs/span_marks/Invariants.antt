-- The loop's invariant: the marks are those of the tokens passed.
use Prim.Native.Nat.{◌≤◌, ◌<◌}
use Rattle.marks.specs.Drafts.{half}
use Rattle.marks.specs.Marked.{Carried}
use Rattle.marks.proofs.span_marks.Given as goal

abbrev pub invariant-loop-left : goal.invariant-loop-left
invariant-loop-left l =
    (0 < l.left) × (l.left ≤ l.len) × Carried (half l.d) l.start l.left l.k
