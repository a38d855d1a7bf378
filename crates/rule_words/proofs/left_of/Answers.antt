-- `left_of` meets its contract.
use mathlib.Core.Path.{refl}
use Rattle.rule_words.specs.Words.{word_rule}
use Rattle.rule_words.proofs.left_of.Goals as goal

pub returns : goal.returns
unfolding word_rule
returns c = refl
