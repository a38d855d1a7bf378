-- `doubt_marks::Pairs::shape` meets its contract.
use Rattle.doubt_marks.specs.Growing.{Grows, Upto}
use Rattle.doubt_marks.specs.Marking.{PairOver}
use Rattle.doubt_marks.proofs.PairsSearch.shape.Given as goal

abbrev pub invariant-loop-j : goal.invariant-loop-j
invariant-loop-j l =
    Grows (Upto l.j (PairOver l.t.nodes.now l.t.table.now l.f l.i)) l.initial.out l.out
