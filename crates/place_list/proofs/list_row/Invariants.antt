-- `list_row` meets its contract. The loop's invariant: the places over the spans that begin before
-- `start`, and over all longer ones, are listed.
use Rattle.grammar.specs.Content.{rules_of}
use Rattle.place_list.specs.Steps.{entry, Lists}
use Rattle.grammar.specs.Sentences.{spelled}
use Rattle.place_list.proofs.list_row.Given as goal

abbrev pub invariant-loop-start : goal.invariant-loop-start
invariant-loop-start l =
    Lists (rules_of l.g) (spelled l.s) l.initial.list l.list l.initial.k l.k (entry 0 0 l.len)
    (entry 0 l.start l.len)
