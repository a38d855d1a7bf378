-- `doubt_list::list_rule` meets its contract.
use Rattle.doubt_list.proofs.ListLaws.{lists_then}
use Rattle.doubt_list.proofs.list_rule.Goals as goal

pub returns : goal.returns
returns c =
    lists_then c.requires.grounded.formed c.list_same-k.ensures
    c.list_behind.ensures
