-- `rule_of` meets its contract.
use Rattle.rule_words.specs.Words.{word_rule}
use Rattle.rule_words.proofs.rule_of.Goals as goal

pub returns : goal.returns
unfolding word_rule
returns c = λ i. record { left = c.left_of.ensures i; clause = c.clause_of-clause.ensures i }
