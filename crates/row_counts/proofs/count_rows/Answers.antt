-- `count_rows` meets its contract: the least heights are lent on a looping sheet, none on another.
use mathlib.Core.Path.{refl}
use Rattle.tree_choices.proofs.PreferLaws.{ready_flat}
use Rattle.row_counts.proofs.count_rows.Goals as goal

pub cyclic-requires : goal.cyclic-requires
cyclic-requires c = c.requires.charted.formed

pub count_low-requires : goal.count_low-requires
count_low-requires c = record {
  charted = c.requires.charted;
  has_firsts = c.requires.has_firsts;
  wanted = c.requires.wanted;
  cyclic = c.cyclic.ensures.is c.if-cyclic.true;
}

pub count_by-requires : goal.count_by-requires
count_by-requires c = record {
  ready = ready_flat c.requires.charted (c.cyclic.ensures.isnt c.if-cyclic.false) refl;
  has_firsts = c.requires.has_firsts;
  wanted = c.requires.wanted;
}
