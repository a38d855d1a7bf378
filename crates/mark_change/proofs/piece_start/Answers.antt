use native.Mathlib.Omega.{arith}
use Rattle.mark_change.proofs.Starts.{walking_hit, walking_miss}
use Rattle.mark_change.proofs.piece_start.Goals as goal
use Rattle.mark_change.proofs.piece_start.Goals.{then-s-at, else-s-at}

pub loop-at-preserved : goal.loop-at-preserved
loop-at-preserved c = elim c.if-s-at.branch [
  | then-s-at w ↦ rw w.left-is
      (walking_hit c.loop-at.invariant (omega (arith, c.if-left-eq0.false)) w.if-s-at.true)
  | else-s-at w ↦ rw w.left-is
      (walking_miss c.loop-at.invariant (omega (arith, c.if-left-eq0.false)) w.if-s-at.false)
]
