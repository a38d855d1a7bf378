-- `doubt_marks::over_span` meets its contract.
use Rattle.pair_offsets.specs.declared.Frame.{Frame}
use Rattle.doubt_marks.specs.Growing.{Grows, Upto}
use Rattle.doubt_marks.specs.Marking.{ByFrame}
use Rattle.doubt_marks.proofs.over_span.Given as goal

abbrev pub invariant-loop-k : goal.invariant-loop-k
invariant-loop-k g l =
    Grows
    (Upto l.k
    (ByFrame (λ (f : Frame). Upto 384 (g.S.Search.bits l.s l.t.nodes.now l.t.table.now f))))
    l.initial.out l.out
