use Rattle.pair_steps.proofs.NarrowLaws.{all_mask, part_indent}
use Rattle.pair_steps.proofs.part_mask.Goals as goal

pub returns-in-None : goal.returns-in-None
returns-in-None c = rw c.in-None.is (all_mask (λ o. tt))

pub returns-in-Align : goal.returns-in-Align
returns-in-Align c = rw c.in-Align.is (all_mask (λ o. tt))

pub returns-in-Indent : goal.returns-in-Indent
returns-in-Indent c = rw c.in-Indent.is part_indent
