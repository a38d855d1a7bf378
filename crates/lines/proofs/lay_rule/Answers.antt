-- `lines::lay_rule` meets its contract: by the kind.
use mathlib.Core.Path.{◌∙◌}
use Rattle.lines.proofs.lay_rule.Goals as goal

pub returns-in-E : goal.returns-in-E
returns-in-E c = c.plain_rule.ensures ∙ rw c.in-E.is

pub returns-in-A : goal.returns-in-A
returns-in-A c = c.atom_rule.ensures ∙ rw c.in-A.is

pub returns-in-U : goal.returns-in-U
returns-in-U c = c.unary_rule.ensures ∙ rw c.in-U.is

pub returns-in-B : goal.returns-in-B
returns-in-B c = c.binary_rule.ensures ∙ rw c.in-B.is
