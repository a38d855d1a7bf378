use Rattle.acyclic.proofs.Growth.{passed_all}
use Rattle.acyclic.proofs.closed.Goals as goal

pub returns-then-next-set : goal.returns-then-next-set
returns-then-next-set g c = record {
  sound = c.loop-set.invariant;
  shut = passed_all c.pass-next.ensures c.requires.0.whole c.if-next-set.true;
}
