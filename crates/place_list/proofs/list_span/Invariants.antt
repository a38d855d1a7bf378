-- `list_span` meets its contract. The loop's invariant: the places before `a` are listed.
use Prim.Native.Nat.{◌≤◌}
use Rattle.grammar.specs.Content.{rules_of}
use Rattle.grammar.specs.Sentences.{spelled}
use Rattle.place_list.specs.Steps.{entry, Lists}
use Rattle.place_list.proofs.list_span.Given as goal

abbrev pub invariant-loop-a : goal.invariant-loop-a
invariant-loop-a l =
    (l.a ≤ 64) × Lists (rules_of l.g) (spelled l.s) l.initial.list l.list l.initial.k l.k
    (entry 0 l.start l.len) (entry l.a l.start l.len)
