-- `put_counts` meets its contract, part by part.
use Rattle.printing.proofs.Writing.{wrote_then}
use Rattle.text_trees.specs.Rows.{count_lines}
use Rattle.text_trees.proofs.put_counts.Goals as goal

pub returns : goal.returns
unfolding count_lines
returns c =
    let tail = wrote_then c.put_byte-c.ensures
    (wrote_then c.put_count-d.ensures.wrote c.put_byte.ensures) in
    wrote_then c.put_bytes-a.ensures (wrote_then c.put_count-b.ensures.wrote tail)
