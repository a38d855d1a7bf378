-- A set that adds nothing to another is a part of it.
use mathlib.Core.Path.{◌≡◌}
use mathlib.Core.Logic.{inl}
use borrow.Author.Tests.{eqb-true}
use lib.Bits.{bit_or}
use Rattle.sets.proofs.Bits.{in_or}
use Rattle.dominance.proofs.within.Goals as goal

pub returns : goal.returns
returns c e =
    let s : bit_or c.args.s c.args.t ≡ c.args.t = eqb-true _ _ e in
    record { each = λ A h m. rw s at (in_or c.args.s c.args.t A).1 (inl m) }
