-- `text::parting` meets its contract. The loop's invariant: what stands from `i` on settles the
-- answer.
use Rattle.text.proofs.PartingLaws.{Seeking}
use Rattle.text.proofs.parting.Given as goal

abbrev pub invariant-loop-i : goal.invariant-loop-i
invariant-loop-i l = Seeking l.s l.begins l.i
