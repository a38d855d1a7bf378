-- The cuts that the row, the column and the mark have.
use Rattle.contained_spans.proofs.SeeLaws.{hits_made}
use Rattle.contained_spans.proofs.hits.Goals as goal

pub returns : goal.returns
returns c =
    let a = c.args in
    hits_made a.cuts.now a.b a.e a.m a.start a.len a.k _ _ _
    c.wide.ensures c.wide-2.ensures
    c.mask.ensures
