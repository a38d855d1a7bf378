-- `lengths::names` meets its contract.
use mathlib.Core.Logic.{inl, inr, ⊎_elim}
use Rattle.sets.proofs.Says.{holds, says_iff}
use Rattle.lengths.proofs.Growing.{first_small, second_small}
use Rattle.lengths.proofs.names.Goals as goal

pub has-requires : goal.has-requires
has-requires c = rw c.first_of.ensures (first_small c.args.k c.requires)

pub returns-then-has : goal.returns-then-has
returns-then-has c =
    let f = c.first_of.ensures in
    holds (inl (rw f at (c.has.ensures.is c.if-has.true)))

pub has-requires-2 : goal.has-requires-2
has-requires-2 c = rw c.second_of.ensures (second_small c.args.k c.requires)

pub returns : goal.returns
returns c =
    let f = c.first_of.ensures in
    let s = c.second_of.ensures in
    says_iff (λ i. inr (rw s at i))
    (⊎_elim (λ i. absurd (c.has.ensures.isnt c.if-has.false (rw f i)))
    (λ i. rw s i)) c.has-2.ensures
