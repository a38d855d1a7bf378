-- `doubt_marks::over_frame` meets its contract.
use Rattle.doubt_marks.specs.Growing.{Grows, Upto}
use Rattle.doubt_marks.proofs.over_frame.Given as goal

abbrev pub invariant-loop-i : goal.invariant-loop-i
invariant-loop-i g l =
    Grows (Upto l.i (g.S.Search.bits l.s l.t.nodes.now l.t.table.now l.f)) l.initial.out l.out
