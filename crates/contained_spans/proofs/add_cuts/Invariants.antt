-- The loop's invariant: what lies beneath at the cuts that are not left is put in.
use Prim.Native.Nat.{ℕ, ◌-◌}
use Rattle.sets.specs.Sets.{In}
use Rattle.grammar.specs.declared.Clause.{Clause}
use Rattle.cuts.specs.Joining.{Joins}
use Rattle.cut_tables.proofs.TurnLaws.{Gone}
use Rattle.contained_spans.specs.Joining.{Kid}
use Rattle.contained_spans.proofs.add_cuts.Given as goal

-- what lies beneath at the cut k
abbrev pub Cut : ℕ → ℕ → ℕ → Clause → ℕ → ℕ → ℕ → Type 0
Cut n s len c k q B = Kid n s len c (k - s) q B

abbrev pub invariant-loop-cut : goal.invariant-loop-cut
invariant-loop-cut l =
    Joins (Gone (Cut l.n l.start l.len l.c) l.set l.cut-iterator.rest) l.initial.reach l.reach
    × ((k : ℕ) → In l.cut-iterator.rest k → In l.set k)
