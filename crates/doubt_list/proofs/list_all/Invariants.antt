-- `doubt_list::list_all` meets its contract. The loop's invariant: the nonterminals before a were
-- looked at.
use Prim.Native.Nat.{◌≤◌}
use Rattle.grammar.specs.Content.{rules_of}
use Rattle.doubt_list.specs.Steps.{at, Lists}
use Rattle.doubt_list.proofs.list_all.Given as goal

abbrev pub invariant-loop-a : goal.invariant-loop-a
invariant-loop-a l =
    (l.a ≤ 64) × Lists (rules_of l.g) l.initial.list l.list l.initial.k l.k (at 0 0 0 0)
    (at l.a 0 0 0)
