use Rattle.sets.proofs.Says.{fails, says_iff}
use Rattle.pair_offsets.proofs.sames.Goals as goal

pub returns-then-same-2 : goal.returns-then-same-2
returns-then-same-2 c =
    let s₁ = c.same.ensures in
    let s₂ = c.same-then-same.ensures in
    record {
      says = λ x y z i j k.
          says_iff
          (λ e.
          record {
            same₁ = (s₁.says x y z i j k).is c.if-same.true;
            same₂ = (s₂.says y x z j i k).is c.if-same-2.true;
            same₃ = e;
          }) (λ s. s.same₃) (c.same-then-same-2.ensures.says z x y k i j);
    }

pub returns-else-same-2 : goal.returns-else-same-2
returns-else-same-2 c =
    record {
      says = λ x y z i j k.
          fails (λ s. (c.same-then-same.ensures.says y x z j i k).isnt c.if-same-2.false s.same₂);
    }

pub returns-else-same : goal.returns-else-same
returns-else-same c =
    record {
      says = λ x y z i j k.
          fails (λ s. (c.same.ensures.says x y z i j k).isnt c.if-same.false s.same₁);
    }
