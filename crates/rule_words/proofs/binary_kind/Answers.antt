-- `binary_kind` meets its contract, mark by mark.
use Rattle.rule_words.specs.Words.{clause_of_of}
use Rattle.rule_words.proofs.binary_kind.Goals as goal

pub returns-in-None : goal.returns-in-None
unfolding clause_of_of
returns-in-None c a b = rw c.in-None.is

pub returns-in-Align : goal.returns-in-Align
unfolding clause_of_of
returns-in-Align c a b = rw c.in-Align.is

pub returns-in-Indent : goal.returns-in-Indent
unfolding clause_of_of
returns-in-Indent c a b = rw c.in-Indent.is
