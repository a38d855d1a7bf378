-- Offside and offalign are decided by the carried value, single by its flag.
use Rattle.sets.proofs.Says.{holds}
use Rattle.marks.proofs.Pairings.{says_itself}
use Rattle.marks.proofs.allows_unary.Goals as goal

pub returns-in-None : goal.returns-in-None
returns-in-None c = rw c.in-None.is (holds tt)

pub returns-in-Offside : goal.returns-in-Offside
returns-in-Offside c = rw c.in-Offside.is c.offside.ensures

pub returns-in-Offalign : goal.returns-in-Offalign
returns-in-Offalign c = rw c.in-Offalign.is c.offalign.ensures

pub returns-in-Single : goal.returns-in-Single
returns-in-Single c = rw c.in-Single.is (says_itself _)
