use native.Mathlib.Omega.{arith}
use Rattle.cuts.proofs.CountLaws.{counts_nested}
use Rattle.filling.proofs.ClosingLaws.{found_of}
use Rattle.filling.proofs.find.Goals as goal

-- src/lib.rt:109:5
pub unite-requires : goal.unite-requires
unite-requires c = record {
  p_in_bounds = omega (arith, c.level_of-l.ensures.small, c.requires.table_len);
  nested = record
      { within = counts_nested c.splits-p.ensures };
}

-- src/lib.rt:91:1
pub returns : goal.returns
returns c =
    found_of c.requires.formed.0 c.cut_masks-m.ensures
    c.splits-p.ensures c.level_of-l.ensures c.unite.ensures
