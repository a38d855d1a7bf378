use Rattle.sets.proofs.Says.{fails, says_iff}
use Rattle.pair_offsets.proofs.fine.Goals as goal

pub returns-then-sames : goal.returns-then-sames
returns-then-sames c =
    let s = c.sames.ensures in
    record {
      says = λ x y z i j k.
          says_iff
          (λ e. record { sames = (s.says x y z i j k).is c.if-sames.true; tris = e })
          (λ t. t.tris) (c.tris.ensures.says x y z i j k);
    }

pub returns-else-sames : goal.returns-else-sames
returns-else-sames c =
    record {
      says = λ x y z i j k.
          rw c.if-sames.false
          (fails (λ t. (c.sames.ensures.says x y z i j k).isnt c.if-sames.false t.sames));
    }
