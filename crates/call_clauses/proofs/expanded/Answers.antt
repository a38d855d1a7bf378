-- `expanded` meets its contract: what was put into the buffer is the sheet that is given.
use mathlib.Core.Path.{sym}
use lib.Seq.{length-take-le}
use Rattle.printing.proofs.Writing.{wrote_then}
use Rattle.list_answers.proofs.ListSettled.{list_on}
use borrow.Author.Rules.{rules}
use Rattle.call_clauses.proofs.expanded.Goals as goal

pub slice_bounds-put_list-end : goal.slice_bounds-put_list-end
slice_bounds-put_list-end c = sym (length-take-le _ _ (search rules))

pub returns : goal.returns
returns c =
    let w = wrote_then c.put_bytes-n.ensures c.put_rules-m.ensures.wrote in
    rw c.given.ensures (list_on (rw w.front at c.put_list.ensures))
