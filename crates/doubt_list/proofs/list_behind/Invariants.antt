-- `doubt_list::list_behind` meets its contract. The loop's invariant: the rules before q were
-- looked at.
use Prim.Native.Nat.{◌+◌, ◌≤◌, ◌<◌}
use Rattle.grammar.specs.Content.{rules_of}
use Rattle.doubt_list.specs.Steps.{at, Lists}
use Rattle.doubt_list.proofs.list_behind.Given as goal

abbrev pub invariant-loop-q : goal.invariant-loop-q
invariant-loop-q l =
    (l.p < l.q) × (l.q ≤ l.count) × Lists (rules_of l.g) l.initial.list l.list l.initial.k l.k
    (at l.a l.p (l.p + 1) 0) (at l.a l.p l.q 0)
