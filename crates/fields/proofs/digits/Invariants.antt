-- `fields::digits` meets its contract. The loop's invariant: the digits behind b continue v to what
-- all of them write, and v has as many digits as were read.
use Prim.Native.Nat.{◌^◌, ◌<◌}
use mathlib.Core.Path.{◌≡◌}
use lib.ListN.{drop}
use Rattle.fields.specs.Words.{digits_of}
use Rattle.fields.proofs.digits.Given as goal

abbrev pub invariant-loop-b : goal.invariant-loop-b
invariant-loop-b l =
    (l.v < 10 ^ l.b-index) × (digits_of 0 l.f ≡ digits_of l.v (drop l.b-index l.f))
