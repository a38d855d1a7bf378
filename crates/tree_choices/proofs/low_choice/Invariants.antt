-- The loop's invariant: the choices passed are higher than the least height. One of the rest gives
-- it.
use Prim.Native.Nat.{◌≤◌}
use Rattle.grammar.specs.Content.{rules_of}
use Rattle.tree_choices.proofs.LowLaws.{Higher}
use Rattle.tree_choices.proofs.LowLaws.{rank}
use Rattle.grammar.specs.Sentences.{spelled}
use Rattle.tree_choices.proofs.low_choice.Given as goal

abbrev pub invariant-search : goal.invariant-search
invariant-search l =
    (l.from.rule ≤ 128) × (l.from.left ≤ 65)
    × Higher (rules_of l.g) (spelled l.s) l.hs l.a l.start l.len l.from.rule l.from.left

abbrev pub decreases-search : goal.decreases-search
decreases-search l = rank l.from.rule l.from.left
