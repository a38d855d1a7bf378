use native.Mathlib.Omega.{arith}
use Rattle.pair_frames.proofs.one_more.Goals as goal

pub returns-then-yes : goal.returns-then-yes
returns-then-yes c = (rw c.if-yes.true (omega arith), omega arith)
