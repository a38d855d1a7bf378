use Prim.Native.Nat.{◌-◌}
use Rattle.pair_entries.proofs.EntryLaws.{Preparing}
use Rattle.pair_entries.proofs.prepare.Given as goal

abbrev pub invariant-loop-s : goal.invariant-loop-s
invariant-loop-s l = Preparing l.initial.words l.words l.p l.s

abbrev pub decreases-loop-s : goal.decreases-loop-s
decreases-loop-s l = 1296 - l.s.starts
