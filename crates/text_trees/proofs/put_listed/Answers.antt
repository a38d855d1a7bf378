-- `put_listed` meets its contract: in each arm the verdict is known.
use Rattle.printing.proofs.Writing.{wrote_none, wrote_then}
use Rattle.text_trees.proofs.put_listed.Goals as goal

pub returns-in-None : goal.returns-in-None
returns-in-None c = rw c.in-None.is (wrote_none _ _)

pub returns-in-One : goal.returns-in-One
returns-in-One c = rw c.in-One.is (wrote_none _ _)

pub returns-in-Two : goal.returns-in-Two
returns-in-Two c =
    rw c.in-Two.is
    (wrote_then c.put_bytes-next.ensures c.put_places.ensures)
