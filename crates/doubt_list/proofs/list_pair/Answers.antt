-- `doubt_list::list_pair` meets its contract.
use native.Mathlib.Omega.{arith}
use Rattle.doubt_list.proofs.Going.{lists_rules, lists_empty}
use Rattle.doubt_list.proofs.ListLaws.{lists_then}
use Rattle.doubt_list.proofs.list_pair.Goals as goal

pub put_if-requires : goal.put_if-requires
put_if-requires c =
    let z = c.requires in
    let a = c.args in
    let h = lists_rules z.grounded a.a a.p (omega (arith, z.a_bound.1, z.a_bound.2)) a.q z.a_bound.1
    z.a_bound.2 z.a_bound.3 z.count_le_at c.marked-two.ensures c.put_if-k.ensures in (
      h.few,
      omega (arith, z.a_bound.1, z.a_bound.2, z.grounded.formed.few),
      omega (arith, z.a_bound.2, z.grounded.formed.few),
    )

pub returns : goal.returns
returns c =
    let z = c.requires in
    let a = c.args in
    let h = lists_rules z.grounded a.a a.p (omega (arith, z.a_bound.1, z.a_bound.2)) a.q z.a_bound.1
    z.a_bound.2 z.a_bound.3 z.count_le_at c.marked-two.ensures c.put_if-k.ensures in
    lists_then z.grounded.formed h
    (lists_empty z.grounded a.a a.p (omega (arith, z.a_bound.1, z.a_bound.2)) a.q z.a_bound.1
    z.a_bound.2 h.few c.both_empty-empty.ensures c.put_if.ensures)
