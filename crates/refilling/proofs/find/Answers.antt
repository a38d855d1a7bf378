use native.Mathlib.Omega.{arith}
use Rattle.cuts.proofs.CountLaws.{counts_nested}
use Prim.Native.Nat.{◌+◌}
use Rattle.grammar.specs.Content.{rules_of}
use Rattle.filling.proofs.ClosingLaws.{found_of}
use Rattle.refilling.proofs.KeptLaws.{counts_there}
use Rattle.refilling.proofs.find.Goals as goal

pub unite-requires : goal.unite-requires
unite-requires c = record {
  p_in_bounds = omega (
    arith,
    c.level_of-l.ensures.small,
    c.requires.formed.1.chains.size,
  );
  nested = record
      { within = counts_nested c.kept_splits-p.ensures };
}

pub returns : goal.returns
returns c = let a = c.args in
    found_of c.requires.formed.0
    c.cut_masks-m.ensures
    (counts_there _ a.kept.now (a.start + a.len) _ (rules_of a.g) a.g.count _
    c.kept_splits-p.ensures) c.level_of-l.ensures
    c.unite.ensures
