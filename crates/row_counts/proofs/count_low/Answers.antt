-- `count_low` meets its contract: a local array that is lent holds the least heights.
use Rattle.tree_choices.proofs.PreferLaws.{ready_low}
use Rattle.row_counts.proofs.count_low.Goals as goal

pub count_by-requires : goal.count_by-requires
count_by-requires c = record {
  ready = ready_low c.requires.charted c.requires.cyclic
      c.heights.ensures;
  has_firsts = c.requires.has_firsts;
  wanted = c.requires.wanted;
}
