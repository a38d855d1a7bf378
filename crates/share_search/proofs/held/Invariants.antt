-- `share_search::held` meets its contract: the block's least number is compared, cell by cell.
use Prim.Native.Nat.{◌+◌, ◌≤◌}
use Rattle.share_search.proofs.held.Given as goal

abbrev pub invariant-loop-h : goal.invariant-loop-h
invariant-loop-h l = l.h ≤ l.b + 1
