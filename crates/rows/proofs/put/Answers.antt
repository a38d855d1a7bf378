-- `put` meets its contract: what is copied in stands in the place of as many bytes (`put_splice`).
use native.Mathlib.Omega.{arith}
use Rattle.rows.proofs.BytesLaws.{put_splice}
use Rattle.rows.proofs.put.Goals as goal

pub returns : goal.returns
returns c = rw c.copy_from_slice.ensures.after
    (put_splice c.args.out.now c.args.four c.args.at (omega (arith, c.well_formed)))
