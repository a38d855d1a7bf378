-- The loop's invariant: the members that are not left are put in.
use mathlib.Core.Path.{◌≡◌}
use Prim.Native.Nat.{ℕ, ◌+◌, ◌<◌}
use Rattle.sets.specs.Sets.{In}
use Rattle.cuts.specs.Joining.{Joins}
use Rattle.cut_tables.proofs.TurnLaws.{Gone}
use Rattle.cut_tables.proofs.load_set.Given as goal

-- the bit c, by the member A
abbrev pub Member : ℕ → ℕ → ℕ → ℕ → ℕ → Type 0
Member p c A q k = (A < 64) × (q ≡ p + A) × (k ≡ c)

abbrev pub invariant-loop-a : goal.invariant-loop-a
invariant-loop-a l = Joins (Gone (Member l.p l.c) l.set l.a-iterator.rest) l.initial.cuts l.cuts
    × ((k : ℕ) → In l.a-iterator.rest k → In l.set k)
