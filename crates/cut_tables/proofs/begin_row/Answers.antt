-- The words of the row are 0, then the trees from the start on are put in.
use native.Mathlib.Omega.{arith}
use mathlib.Core.Path.{◌∙◌}
use Rattle.cut_tables.proofs.TableLaws.{table_made}
use Rattle.cut_tables.proofs.begin_row.Goals as goal

pub clear-requires : goal.clear-requires
clear-requires c = omega (arith, c.requires.1.long)

pub load_row-requires : goal.load_row-requires
load_row-requires c =
    (c.requires.0, c.clear.ensures.past.long ∙ c.requires.1.long)

pub shape_of-cuts : goal.shape_of-cuts
shape_of-cuts c = c.load_row.ensures.long
    ∙ c.clear.ensures.past.long

pub returns : goal.returns
returns c = table_made _ _ _ _ _ _
    c.requires.1
    c.clear.ensures
    c.load_row.ensures
