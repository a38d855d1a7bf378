-- `read_text` meets its contract: the reader's refusal, else the output on what was read.
use mathlib.Core.Path.{refl}
use Rattle.printing.proofs.Writing.{wrote_none, wrote_then}
use Rattle.always_text.proofs.DoubtLines.{refused_text}
use Rattle.always_text.proofs.read_text.Goals as goal

pub rules_text-requires : goal.rules_text-requires
rules_text-requires c =
    let read = rw c.in-Ok.is at c.requires.rules_read in
    (read.formed, c.requires.in_bounds)

pub returns-in-Ok : goal.returns-in-Ok
returns-in-Ok c = rw c.in-Ok.is c.rules_text.ensures

pub returns-in-Err : goal.returns-in-Err
returns-in-Err c =
    rw c.in-Err.is (record {
      text = _;
      is = refused_text {e = c.in-Err.e} (record { is = refl });
      wrote = wrote_then c.put_head.ensures.wrote (wrote_none _ _);
    })
