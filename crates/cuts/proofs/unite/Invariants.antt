use Prim.Native.Nat.{ℕ}
use Rattle.sets.specs.Sets.{In}
use Rattle.cuts.specs.Cuts.{words_of_of}
use Rattle.cuts.specs.Closure.{Unites}
use Rattle.cuts.proofs.ClosureLaws.{Done}
use Rattle.cuts.proofs.unite.Given as goal

abbrev pub invariant-loop-b : goal.invariant-loop-b
invariant-loop-b l = ((A : ℕ) → In l.b-iterator.rest A → In l.inner.one A)
    × Unites (words_of_of l.up l.p) (Done l.inner.one l.b-iterator.rest)
    (Done l.inner.two l.b-iterator.rest) l.t
