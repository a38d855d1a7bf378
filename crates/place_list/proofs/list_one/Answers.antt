-- `list_one` meets its contract: the place is put.
use Rattle.place_list.proofs.ListLaws.{lists_put}
use Rattle.place_list.proofs.list_one.Goals as goal

pub returns : goal.returns
returns c =
    let a = c.args in
    lists_put a.a a.start a.len c.requires.place.0 c.put.auto.out
    c.put.ensures
