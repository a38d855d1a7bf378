-- `weigh_alone` meets its contract: the words are as many as are needed.
use Prim.Native.Nat.{ℕ}
use native.Mathlib.Omega.{arith}
use lib.ListN.{length-replicate}
use Rattle.doubt_marks.proofs.weigh_alone.Goals as goal

pub weigh-requires : goal.weigh-requires
weigh-requires c =
    let s = c.requires in
    (s.0, omega (arith, length-replicate {A = ℕ} 73728 0), s.1)
