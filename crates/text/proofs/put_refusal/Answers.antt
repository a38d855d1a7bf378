-- `text::put_refusal` meets its contract, part by part.
use Rattle.printing.proofs.Writing.{wrote_then}
use Rattle.text.proofs.put_refusal.Goals as goal

pub returns : goal.returns
returns c =
    wrote_then c.put_bytes-n.ensures
    (wrote_then c.put_refused-m.ensures.wrote c.put_line.ensures.wrote)
