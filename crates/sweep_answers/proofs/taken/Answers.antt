-- `taken` meets its contract: clear without a sentence, two with one.
use Rattle.sweep_answers.proofs.Sweeping.{bounded, swept_on}
use Rattle.sweep_answers.proofs.taken.Goals as goal

pub sweep_rules-s-requires : goal.sweep_rules-s-requires
sweep_rules-s-requires c =
    record {
      bounded = bounded c.requires.sweep_taken;
      formed = c.requires.formed;
      exact = c.requires.exact;
      k_in_bounds = c.requires.sweep_taken.enough;
    }

pub returns : goal.returns
returns c =
    swept_on _ c.requires.sweep_taken c.sweep_rules-s.ensures.swept
    c.sweep_rules-s.ensures.words_after
