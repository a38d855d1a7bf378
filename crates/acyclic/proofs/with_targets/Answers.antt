-- `acyclic::with_targets` meets its contract: each kind of clause adds what it has edges to.
use mathlib.Core.Path.{refl}
use Rattle.acyclic.proofs.Growth.{grown_none, grown_with, grown_both}
use Rattle.acyclic.proofs.with_targets.Goals as goal

pub with-requires : goal.with-requires
with-requires c = rw c.in-Unary.is at c.requires

pub beside-left-requires : goal.beside-left-requires
beside-left-requires c =
    (let s = rw c.in-Binary.is at c.requires in (s.1, s.0))

pub beside-requires : goal.beside-requires
beside-requires c =
    rw c.in-Binary.is at c.requires

pub returns-in-Empty : goal.returns-in-Empty
returns-in-Empty c = rw c.in-Empty.is (grown_none (λ Y p. absurd p))

pub returns-in-Atom : goal.returns-in-Atom
returns-in-Atom c = rw c.in-Atom.is (grown_none (λ Y p. absurd p))

pub returns-in-Unary : goal.returns-in-Unary
returns-in-Unary c = rw (c.in-Unary.is, c.with.ensures) (grown_with _ _ refl (λ Y p. p))

pub returns-in-Binary : goal.returns-in-Binary
returns-in-Binary c = rw c.in-Binary.is
    (grown_both c.beside-left.ensures c.beside.ensures (λ Y p. p) (λ Y p. p))
