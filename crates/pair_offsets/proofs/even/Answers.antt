use Rattle.pair_offsets.proofs.EvenLaws.{says_even, not_even₁, not_even₂, not_even₃}
use Rattle.sets.proofs.Says.{fails}
use Rattle.pair_offsets.proofs.even.Goals as goal

pub returns-then-fine-3 : goal.returns-then-fine-3
returns-then-fine-3 c =
    says_even _ _ c.fine.ensures
    c.if-fine.true
    c.fine-then-fine.ensures
    c.if-fine-2.true c.fine-then-fine-2.ensures
    c.if-fine-3.true c.fine-then-fine-3.ensures

pub returns-else-fine-3 : goal.returns-else-fine-3
returns-else-fine-3 c = fails (not_even₃ _ _ c.fine-then-fine-2.ensures c.if-fine-3.false)

pub returns-else-fine-2 : goal.returns-else-fine-2
returns-else-fine-2 c = fails (not_even₂ _ _ c.fine-then-fine.ensures c.if-fine-2.false)

pub returns-else-fine : goal.returns-else-fine
returns-else-fine c = fails (not_even₁ _ _ c.fine.ensures c.if-fine.false)
