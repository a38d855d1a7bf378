use native.Mathlib.Omega.{arith}
use lib.ListN.{length-set}
use Rattle.pair_entries.proofs.EntryLaws.{entry_put}
use Rattle.pair_entries.proofs.put_entry.Goals as goal

pub bounds-words-n-2 : goal.bounds-words-n-2
bounds-words-n-2 c = simp length-set (omega arith)

pub bounds-words-n-3 : goal.bounds-words-n-3
bounds-words-n-3 c = simp length-set (omega arith)

pub bounds-words-n-4 : goal.bounds-words-n-4
bounds-words-n-4 c = simp length-set (omega arith)

pub returns : goal.returns
returns c = entry_put _ _ _ _ _ _ c.requires.0 c.requires.1
