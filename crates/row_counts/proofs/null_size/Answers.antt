-- `null_size` meets its contract, by the kind.
use Prim.Native.Nat.{◌+◌}
use native.Mathlib.Omega.{arith}
use lib.ListN.{get_or}
use Rattle.row_counts.proofs.CappedLaws.{capped_le}
use Rattle.row_counts.proofs.SizeLaws.{two_some}
use Rattle.row_counts.proofs.null_size.Goals as goal

pub add-requires-else-y-eq0-2 : goal.add-requires-else-y-eq0-2
add-requires-else-y-eq0-2 c = (
  omega arith,
  omega (
    arith,
    c.add-else-y-eq0.ensures,
    capped_le (get_or c.args.z.now c.in-Binary.b 0 + get_or c.args.z.now c.in-Binary.e 0),
  ),
)

pub returns-else-y-eq0 : goal.returns-else-y-eq0
returns-else-y-eq0 c = rw c.in-Binary.is
    (two_some _ _ _ _ c.if-x-eq0-2.false c.if-y-eq0.false c.add-else-y-eq0.ensures
    c.add-else-y-eq0-2.ensures)
