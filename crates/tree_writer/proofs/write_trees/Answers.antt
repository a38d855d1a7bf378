-- `write_trees` meets its contract: the least heights are lent on a looping sheet, none on another.
use mathlib.Core.Path.{refl}
use Rattle.tree_choices.proofs.PreferLaws.{ready_flat}
use Rattle.tree_writer.proofs.write_trees.Goals as goal

pub cyclic-requires : goal.cyclic-requires
cyclic-requires c = c.requires.charted.formed

pub trees_low-requires : goal.trees_low-requires
trees_low-requires c = record {
  charted = c.requires.charted;
  wanted = c.requires.wanted;
  cyclic = c.cyclic.ensures.is
      c.if-cyclic.true;
}

pub trees_by-requires : goal.trees_by-requires
trees_by-requires c = record {
  ready = ready_flat c.requires.charted (c.cyclic.ensures.isnt
      c.if-cyclic.false) refl;
  wanted = c.requires.wanted;
}
