-- `put_flags` meets its contract, part by part.
use Rattle.printing.proofs.Writing.{wrote_then}
use Rattle.column_text.specs.Columns.{flag_lines}
use Rattle.column_text.proofs.put_flags.Goals as goal

pub returns : goal.returns
unfolding flag_lines
returns c =
    wrote_then c.put_bytes-a.ensures
    (wrote_then c.put_flag-b.ensures.wrote
    (wrote_then c.put_flag-c.ensures.wrote c.put_flag.ensures.wrote))
