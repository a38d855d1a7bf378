-- `trees_low` meets its contract: a local array that is lent holds the least heights.
use mathlib.Core.Path.{refl, sym}
use Prim.Native.Nat.{ℕ}
use lib.ListN.{length-replicate}
use Rattle.tree_choices.proofs.PreferLaws.{ready_low}
use Rattle.tree_writer.proofs.trees_low.Goals as goal

pub slice_bounds-heights-end : goal.slice_bounds-heights-end
slice_bounds-heights-end c = sym (length-replicate {A = ℕ} 133184 65535)

pub heights-requires : goal.heights-requires
heights-requires c =
    record {
      count_bound = c.requires.charted.positioned.few;
      formed = c.requires.charted.formed;
      hs_value = refl;
    }

pub trees_by-requires : goal.trees_by-requires
trees_by-requires c = record {
  ready = ready_low c.requires.charted c.requires.cyclic
      c.heights.ensures;
  wanted = c.requires.wanted;
}

pub returns : goal.returns
returns c = c.trees_by.ensures
