-- The loop's invariant: of rows and columns both words are written for the members passed.
use mathlib.Core.Path.{◌≡◌}
use lib.ListN.{length}
use Rattle.cuts.proofs.PutLaws.{PuttingTwice}
use Rattle.cuts.proofs.put_both.Given as goal

abbrev pub invariant-loop-a : goal.invariant-loop-a
invariant-loop-a l =
    (PuttingTwice l.initial.rows l.rows 0 l.set l.e l.a-iterator.rest
    × (length l.rows ≡ length l.initial.rows))
    × (PuttingTwice l.initial.cols l.cols l.p l.set l.c l.a-iterator.rest
    × (length l.cols ≡ length l.initial.cols))
