-- `share_text` meets its contract: the lent words are those of the promise of `share`.
use mathlib.Core.Path.{refl}
use Prim.Native.Nat.{ℕ}
use lib.ListN.{length-replicate}
use Rattle.printing.proofs.Writing.{wrote_none, wrote_then}
use Rattle.share_text.specs.Shares.{answered}
use Rattle.share_text.proofs.Fits.{share_few}
use Rattle.share_text.proofs.share_text.Goals as goal

pub put_report-requires : goal.put_report-requires
put_report-requires c =
    record { few = share_few (rw c.in-Ok.is at c.share.ensures); in_bounds = c.requires }

pub returns-in-Ok : goal.returns-in-Ok
returns-in-Ok c =
    let by = rw c.in-Ok.is at c.share.ensures in
    record {
      text = _;
      is = answered (length-replicate {A = ℕ} 58 0) by refl;
      wrote = c.put_report.ensures;
    }

pub returns-in-Err : goal.returns-in-Err
returns-in-Err c =
    let by = rw c.in-Err.is at c.share.ensures in
    record {
      text = _;
      is = answered (length-replicate {A = ℕ} 58 0) by refl;
      wrote = wrote_then (wrote_then c.put_head.ensures.wrote (wrote_none _ _)) (wrote_none _ _);
    }
