-- `weighed_text` meets its contract: the doubts are those of the rules, whatever words were lent.
use mathlib.Core.Path.{refl}
use Prim.Native.Nat.{ℕ}
use native.Mathlib.Omega.{arith}
use lib.ListN.{length-replicate}
use Rattle.call_always.proofs.Replies.{doubts_told}
use Rattle.always_text.specs.Always.{answered}
use Rattle.always_text.proofs.DoubtLines.{doubts_fit, by_told}
use Rattle.always_text.proofs.weighed_text.Goals as goal

pub put_told-requires : goal.put_told-requires
put_told-requires c =
    let f = doubts_fit (by_told (doubts_told c.reply-r.ensures c.list_doubts.ensures)) in
    let l = length-replicate {A = ℕ} 57600 0 in
    record {
      list_in = omega (arith, f, l, c.list_doubts.auto.list);
      in_bounds = omega (arith, f, l, c.requires.in_bounds);
    }

pub returns : goal.returns
returns c =
    record {
      text = _;
      is =
          answered (length-replicate {A = ℕ} 73728 0) (length-replicate {A = ℕ} 57600 0)
          (by_told (doubts_told c.reply-r.ensures c.list_doubts.ensures)) refl;
      wrote = c.put_told.ensures;
    }
