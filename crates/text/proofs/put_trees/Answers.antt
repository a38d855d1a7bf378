-- `text::put_trees` meets its contract: in each arm the answer is known.
use mathlib.Core.List.{append_assoc}
use Rattle.printing.proofs.Writing.{wrote_none, wrote_then}
use Rattle.text.specs.Output.{tree_names}
use Rattle.text.proofs.put_trees.Goals as goal

pub returns-in-None : goal.returns-in-None
returns-in-None c = rw c.in-None.is (wrote_none _ _)

pub returns-in-One : goal.returns-in-One
returns-in-One c =
    rw c.in-One.is c.put_first.ensures.wrote

pub returns-in-Two : goal.returns-in-Two
returns-in-Two c =
    rw (c.in-Two.is, ← append_assoc tree_names)
    (wrote_then c.put_first-next.ensures.wrote c.put_rows.ensures.wrote)

pub returns-in-Clear : goal.returns-in-Clear
returns-in-Clear c = rw c.in-Clear.is (wrote_none _ _)

pub returns-in-Given : goal.returns-in-Given
returns-in-Given c = rw c.in-Given.is (wrote_none _ _)

pub returns-in-Refused : goal.returns-in-Refused
returns-in-Refused c = rw c.in-Refused.is (wrote_none _ _)
