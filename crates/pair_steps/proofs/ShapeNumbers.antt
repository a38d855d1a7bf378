-- Shapes by number.
use mathlib.Core.Path.{◌≡◌, ap}
use Prim.Native.Nat.{◌<◌}
use native.Mathlib.Omega.{arith}
use Rattle.pairs.specs.Shapes.{Shape, all, first, second, rule_of_shape}
use Rattle.pair_steps.specs.Nodes.{shape_number}

pub shape_one : (s r : Shape) → rule_of_shape s < 128 → rule_of_shape r < 128
    → shape_number s ≡ shape_number r → s ≡ r
shape_one (all p) (all q) h k e = ap all e
shape_one (all p) (first q) h k e = absurd (omega arith)
shape_one (all p) (second q) h k e = absurd (omega arith)
shape_one (first p) (all q) h k e = absurd (omega arith)
shape_one (first p) (first q) h k e = ap first (let d : p ≡ q = omega arith in d)
shape_one (first p) (second q) h k e = absurd (omega arith)
shape_one (second p) (all q) h k e = absurd (omega arith)
shape_one (second p) (first q) h k e = absurd (omega arith)
shape_one (second p) (second q) h k e = ap second (let d : p ≡ q = omega arith in d)

pub shape_low : (s : Shape) → rule_of_shape s < 128 → shape_number s < 384
shape_low (all p) h = omega arith
shape_low (first p) h = omega arith
shape_low (second p) h = omega arith
