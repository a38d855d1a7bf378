-- `doubt_marks::mark_doubts` meets its contract.
use native.Mathlib.Omega.{arith}
use lib.ListN.{replicate, get_or-replicate}
use Rattle.doubt_marks.proofs.MarkLaws.{marks_for}
use Rattle.doubt_marks.proofs.mark_doubts.Goals as goal

pub returns : goal.returns
returns c =
    let k = c.clear.ensures in
    marks_for {zero = replicate 768 0}
    (record { blank = λ n l. get_or-replicate 768 n 0 0 (omega (arith, l)) })
    c.over_span.ensures
    c.seen_by-seen.ensures
    (record { blank = λ n l. k.zeros n (omega (arith, l)) }) k.past.long
    c.over_span-2.ensures c.requires
