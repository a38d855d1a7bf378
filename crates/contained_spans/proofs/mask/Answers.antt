-- An arm for each mark.
use Rattle.grammar.specs.declared.BinaryMark.TheVariants as BinaryMark
use Rattle.contained_spans.proofs.SeeLaws.{mask-of}
use Rattle.contained_spans.proofs.mask.Goals as goal

pub returns-in-None : goal.returns-in-None
returns-in-None c = rw c.in-None.is (mask-of c.cut_masks-w.ensures
    BinaryMark.None)

pub returns-in-Align : goal.returns-in-Align
returns-in-Align c = rw c.in-Align.is (mask-of c.cut_masks-w.ensures
    BinaryMark.Align)

pub returns-in-Indent : goal.returns-in-Indent
returns-in-Indent c = rw c.in-Indent.is (mask-of c.cut_masks-w.ensures
    BinaryMark.Indent)
