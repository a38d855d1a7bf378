use native.Mathlib.Omega.{arith}
use Rattle.filling.proofs.ClosingLaws.{beginning}
use Rattle.filling.proofs.begin.Goals as goal

-- src/lib.rt:110:5
pub load-requires : goal.load-requires
load-requires c = record {
  room = (c.requires.room, omega arith);
  mirrors = beginning c.requires.rows_len
      c.clear.ensures c.requires.columns;
}
