-- The loop's invariant: numbers only fell. The measure is their sum.
use Rattle.grammar.specs.Content.{rules_of}
use Rattle.tables.specs.Tables.{by_marks}
use Rattle.heights.specs.Falls.{Falls, sum}
use Rattle.heights.proofs.lower_on.Given as goal

abbrev pub invariant-loop-g : goal.invariant-loop-g
invariant-loop-g l = Falls (rules_of l.g) (by_marks l.k l.len) l.n l.start l.len l.initial.hs l.hs

abbrev pub decreases-loop-g : goal.decreases-loop-g
decreases-loop-g l = sum l.hs l.n l.start l.len
