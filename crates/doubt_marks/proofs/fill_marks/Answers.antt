-- `doubt_marks::fill_marks` meets its contract.
use Rattle.doubt_marks.proofs.fill_marks.Goals as goal

pub returns : goal.returns
returns c =
    let t = c.fill_table.ensures in
    let n = c.fill_nodes.ensures in
    let d = c.mark_doubts.ensures in
    let o = t.table _ n.nodes in
    record {
      size = d.size;
      past = record { long = t.size; rest = t.past };
      marked = d.marked _ n o.sound o.closed o.low;
    }
