-- `leaf` meets its contract.
use Rattle.rule_output.proofs.Leaves.{leaf_nonterminal, leaf_terminal, leaf_other}
use Rattle.rule_output.proofs.leaf.Goals as goal

pub returns-in-Nonterminal : goal.returns-in-Nonterminal
returns-in-Nonterminal c = leaf_nonterminal _ _ _ _ c.in-Nonterminal.is

pub returns-in-Terminal : goal.returns-in-Terminal
returns-in-Terminal c =
    leaf_terminal _ _ _ _ _ c.in-Terminal.is c.atomic-o.ensures

pub returns-in_default : goal.returns-in_default
returns-in_default c =
    leaf_other _ _ _ _ c.in_default.not-Nonterminal c.in_default.not-Terminal
