-- `columns_text` meets its contract: the lent words are those of the promise of `columns`.
use mathlib.Core.Path.{refl}
use Prim.Native.Nat.{ℕ}
use lib.ListN.{length-replicate}
use Rattle.printing.proofs.Writing.{wrote_none, wrote_then}
use Rattle.column_text.specs.Columns.{answered}
use Rattle.column_text.proofs.columns_text.Goals as goal

pub returns-in-Ok : goal.returns-in-Ok
returns-in-Ok c =
    let by = rw c.in-Ok.is at c.columns.ensures in
    record {
      text = _;
      is = answered (length-replicate {A = ℕ} 4162 0) by refl;
      wrote = wrote_then c.put_head-n.ensures.wrote c.put_flags.ensures;
    }

pub returns-in-Err : goal.returns-in-Err
returns-in-Err c =
    let by = rw c.in-Err.is at c.columns.ensures in
    record {
      text = _;
      is = answered (length-replicate {A = ℕ} 4162 0) by refl;
      wrote = wrote_then c.put_head.ensures.wrote (wrote_none _ _);
    }
