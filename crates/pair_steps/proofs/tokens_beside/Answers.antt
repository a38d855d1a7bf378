use Rattle.pair_steps.proofs.tokens_beside.Goals as goal

pub returns-then-p-r : goal.returns-then-p-r
returns-then-p-r c = rw c.if-p-r.true at c.requires
