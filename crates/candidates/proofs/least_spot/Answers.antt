-- `candidates::least_spot` meets its contract: a column further on the same line, or column 1 of
-- the next line where there is none.
use Rattle.candidates.proofs.CellOrder.{spot_here, spot_next}
use Rattle.candidates.proofs.least_spot.Goals as goal

pub returns-then-p-n : goal.returns-then-p-n
returns-then-p-n c = spot_here _ _ _ c.if-p-n.true

pub returns-else-p-n : goal.returns-else-p-n
returns-else-p-n c =
    spot_next _ _ _ c.requires.nonempty (c.requires.next c.if-p-n.false) c.if-p-n.false
