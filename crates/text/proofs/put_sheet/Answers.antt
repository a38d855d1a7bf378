-- `text::put_sheet` meets its contract: the bytes that are given, or the refusal alone.
use mathlib.Core.Path.{sym}
use native.Mathlib.Omega.{arith}
use lib.Seq.{length-take-le}
use Rattle.printing.proofs.Writing.{wrote_none, wrote_then}
use Rattle.text.proofs.put_sheet.Goals as goal

pub slice_bounds-put_bytes-end : goal.slice_bounds-put_bytes-end
slice_bounds-put_bytes-end c =
    sym (length-take-le _ _ (rw c.in-Ok.is at c.requires.given))

pub put_bytes-requires : goal.put_bytes-requires
put_bytes-requires c =
    rw (length-take-le _ _ (rw c.in-Ok.is at c.requires.given))
    (omega (
      arith,
      rw c.in-Ok.is at c.requires.in_bounds,
      c.put_head-next.ensures.upper_bound,
      c.put_head-next.ensures.wrote.long,
    ))

pub returns-in-Ok : goal.returns-in-Ok
returns-in-Ok c =
    rw c.in-Ok.is (wrote_then c.put_head-next.ensures.wrote c.put_bytes.ensures)

pub returns-in-Err : goal.returns-in-Err
returns-in-Err c =
    rw c.in-Err.is (wrote_then c.put_head.ensures.wrote (wrote_none _ _))
