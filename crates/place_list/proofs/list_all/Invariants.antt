-- `list_all` meets its contract. The loop's invariant: the places over spans longer than `len` are
-- listed.
use Prim.Native.Nat.{◌≤◌}
use Rattle.grammar.specs.Content.{rules_of}
use Rattle.place_list.specs.Steps.{entry, Lists}
use Rattle.grammar.specs.Sentences.{spelled}
use Rattle.place_list.proofs.list_all.Given as goal

abbrev pub invariant-loop-len : goal.invariant-loop-len
invariant-loop-len l = (l.len ≤ l.s.count)
    × Lists (rules_of l.g) (spelled l.s) l.initial.list l.list l.initial.k l.k (entry 0 0 l.s.count)
    (entry 0 0 l.len)
