-- The loop's invariant: both words are written for the members passed.
use mathlib.Core.Path.{◌≡◌}
use lib.ListN.{length}
use Rattle.cuts.proofs.PutLaws.{PuttingTwice}
use Rattle.cuts.proofs.put_twice.Given as goal

abbrev pub invariant-loop-a : goal.invariant-loop-a
invariant-loop-a l =
    PuttingTwice l.initial.words l.words l.p l.set l.c l.a-iterator.rest
    × (length l.words ≡ length l.initial.words)
