use Prim.Native.Nat.{ℕ}
use Rattle.sets.specs.Sets.{In}
use Rattle.cuts.proofs.ClosureLaws.{Done}
use Rattle.chains.specs.Reaching.{Gathers}
use Rattle.chains.proofs.gather.Given as goal

abbrev pub invariant-loop-c : goal.invariant-loop-c
invariant-loop-c l =
    ((A : ℕ) → In l.c-iterator.rest A → In l.set A)
    × Gathers l.words (Done l.set l.c-iterator.rest) l.r
