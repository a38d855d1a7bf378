use mathlib.Core.Path.{ap, ◌∙◌}
use Prim.Native.Nat.{ℕ}
use native.Mathlib.Omega.{arith}
use lib.ListN.{get_or}
use Rattle.heights.proofs.FallLaws.{get_d_any}
use Rattle.heights.proofs.high.Goals as goal

pub returns : goal.returns
returns c = let a = c.args in
    ap (λ (x : ℕ). get_or a.hs.now x 0) c.cell-at.ensures.0
    ∙ get_d_any a.hs.now _ 0 65535 (omega (arith, c.cell-at.ensures))
