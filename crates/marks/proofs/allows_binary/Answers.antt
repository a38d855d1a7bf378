-- Each mark has its set.
use Rattle.sets.proofs.Says.{holds}
use Rattle.marks.proofs.allows_binary.Goals as goal

pub returns-in-None : goal.returns-in-None
returns-in-None c = rw c.in-None.is (holds tt)

pub returns-in-Align : goal.returns-in-Align
returns-in-Align c = rw c.in-Align.is c.listed.ensures

pub returns-in-Indent : goal.returns-in-Indent
returns-in-Indent c = rw c.in-Indent.is c.listed-in-Indent.ensures
