-- `doubt_list::list_left` meets its contract. The loop's invariant: the rules before p were looked
-- at.
use Prim.Native.Nat.{◌≤◌}
use Rattle.grammar.specs.Content.{rules_of}
use Rattle.doubt_list.specs.Steps.{at, Lists}
use Rattle.doubt_list.proofs.list_left.Given as goal

abbrev pub invariant-loop-p : goal.invariant-loop-p
invariant-loop-p l =
    (l.p ≤ l.count) × Lists (rules_of l.g) l.initial.list l.list l.initial.k l.k (at l.a 0 0 0)
    (at l.a l.p 0 0)
