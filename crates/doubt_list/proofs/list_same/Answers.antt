-- `doubt_list::list_same` meets its contract.
use Rattle.doubt_list.proofs.Going.{lists_same}
use Rattle.doubt_list.proofs.list_same.Goals as goal

pub returns : goal.returns
returns c =
    lists_same c.requires.grounded c.args.a c.args.p c.requires.p_lt_count.0 c.requires.p_lt_count.1
    c.requires.count_le_at c.marked-two.ensures c.put_if.ensures
