-- `unary_kind` meets its contract, mark by mark.
use Rattle.rule_words.specs.Words.{clause_of_of}
use Rattle.rule_words.proofs.unary_kind.Goals as goal

pub returns-in-None : goal.returns-in-None
unfolding clause_of_of
returns-in-None c a b = rw c.in-None.is

pub returns-in-Offside : goal.returns-in-Offside
unfolding clause_of_of
returns-in-Offside c a b = rw c.in-Offside.is

pub returns-in-Offalign : goal.returns-in-Offalign
unfolding clause_of_of
returns-in-Offalign c a b = rw c.in-Offalign.is

pub returns-in-Single : goal.returns-in-Single
unfolding clause_of_of
returns-in-Single c a b = rw c.in-Single.is
