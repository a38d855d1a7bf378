-- `piece_start` meets its contract: byte by byte, as many pieces are left to pass.
use Rattle.mark_change.proofs.Starts.{Walking}
use Rattle.mark_change.proofs.piece_start.Given as goal

abbrev pub invariant-loop-at : goal.invariant-loop-at
invariant-loop-at l = Walking l.s l.b l.n l.at l.left
