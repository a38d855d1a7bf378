-- `scanning::starts_at` meets its contract: the part from the place on is all that is left.
use mathlib.Core.Path.{ap, ◌∙◌}
use mathlib.Core.List.{List}
use Prim.Native.Nat.{ℕ, ◌-◌}
use native.Mathlib.Omega.{arith}
use lib.Dec.{eqb}
use lib.ListN.{length, drop, length-drop}
use lib.Seq.{take_all}
use Rattle.std.specs.List.{starts_with}
use Rattle.scanning.proofs.Starting.{starts_says}
use Rattle.scanning.proofs.starts_at.Goals as goal

pub returns : goal.returns
returns c =
    let a = c.args in
    starts_says (drop a.at a.s.now) a.bytes.now _
    (c.starts_with.ensures.value
    ∙ ap (λ (l : List ℕ). starts_with eqb l a.bytes.now)
    (take_all (length a.s.now - a.at) (drop a.at a.s.now)
    (omega (arith, length-drop a.at a.s.now))))
