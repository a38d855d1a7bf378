-- `write` meets its contract: the invariant is `Running`, each turn of the loop writes one row, the
-- measure is how many places have none yet.
use Prim.Native.Nat.{◌-◌}
use lib.ListN.{length}
use Rattle.tree_writer.proofs.Turn.{Running}
use Rattle.tree_view.specs.Members.{member}
use Rattle.tree_writer.proofs.write.Given as goal

abbrev pub invariant-loop-top : goal.invariant-loop-top
invariant-loop-top l =
    Running (member l.sees) l.g l.s l.seeking (length l.initial.out) l.places l.out l.n l.top l.seek

abbrev pub decreases-loop-top : goal.decreases-loop-top
decreases-loop-top l = l.places - l.n
