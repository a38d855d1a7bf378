-- The number falls to how high the rule stands, or the rule stands no lower.
use Prim.Native.Nat.{◌+◌}
use native.Mathlib.Omega.{arith}
use Rattle.heights.proofs.FallLaws.{lowest_one, passed_lowest}
use Rattle.heights.proofs.lower.Goals as goal

pub tall-h-requires : goal.tall-h-requires
tall-h-requires c = record { room = c.requires.0; small_clause = c.requires.1.clause }

pub cell-at-requires : goal.cell-at-requires
cell-at-requires c = (
  c.requires.0.few,
  c.requires.0.fits,
  c.requires.1.left,
)

pub put_lower-requires : goal.put_lower-requires
put_lower-requires c = omega
    (arith, c.cell-at.ensures.1, c.requires.0.long)

pub returns : goal.returns
returns c = let a = c.args in passed_lowest a.r c.requires.1.left c.requires.0 a.left (a.left + 1) _
    _ c.cell-at.ensures.0
    (lowest_one a.r.clause a.left
    c.tall-h.ensures)
    c.put_lower.ensures
