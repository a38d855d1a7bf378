-- `teplonga_refused_line` meets its contract: it is that of `refused_line`.
use Rattle.c_interface.proofs.teplonga_refused_line.Goals as goal

pub returns : goal.returns
returns c = c.refused_line.ensures
