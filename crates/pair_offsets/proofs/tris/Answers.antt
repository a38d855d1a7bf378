use Rattle.pair_offsets.proofs.SayLaws.{tris_pqr, tris_prq, tris_rpq, tris_qpr, tris_qrp}
use Rattle.pair_offsets.proofs.SayLaws.{tris_rqp, tris_none₁, tris_none₂, tris_none₃}
use native.Mathlib.Omega.{arith}
use Rattle.pair_offsets.proofs.tris.Goals as goal

pub returns-then-q-r : goal.returns-then-q-r
returns-then-q-r c =
    record {
      says = λ x y z i j k.
          tris_pqr (omega (arith, c.if-p-q.true))
          (omega (arith, c.if-q-r.true)) (c.tri.ensures.says x y z i j k);
    }

pub returns-then-r-q : goal.returns-then-r-q
returns-then-r-q c =
    record {
      says = λ x y z i j k.
          tris_prq (omega (arith, c.if-p-r.true))
          (omega (arith, c.if-r-q.true)) (c.tri-then-r-q.ensures.says z y x k j i);
    }

pub returns-then-p-r : goal.returns-then-p-r
returns-then-p-r c = record {
  says = λ x y z i j k. tris_none₂
      (omega (arith, c.if-r-q.false, c.if-q-r.false));
}

pub returns-then-r-p : goal.returns-then-r-p
returns-then-r-p c =
    record {
      says = λ x y z i j k.
          tris_rpq (omega (arith, c.if-r-p.true))
          (omega (arith, c.if-p-q.true))
          (c.tri-then-r-p.ensures.says z x y k i j);
    }

pub returns-then-p-q : goal.returns-then-p-q
returns-then-p-q c =
    record { says = λ x y z i j k. tris_none₃ (omega (arith, c.if-r-p.false, c.if-p-r.false)) }

pub returns-then-p-r-2 : goal.returns-then-p-r-2
returns-then-p-r-2 c =
    record {
      says = λ x y z i j k.
          tris_qpr (omega (arith, c.if-q-p.true))
          (omega (arith, c.if-p-r-2.true)) (c.tri-then-p-r-2.ensures.says x z y i k j);
    }

pub returns-then-r-p-2 : goal.returns-then-r-p-2
returns-then-r-p-2 c =
    record {
      says = λ x y z i j k.
          tris_qrp (omega (arith, c.if-q-r-2.true))
          (omega (arith, c.if-r-p-2.true)) (c.tri-then-r-p-2.ensures.says y z x j k i);
    }

pub returns-then-q-r-2 : goal.returns-then-q-r-2
returns-then-q-r-2 c = record {
  says = λ x y z i j k. tris_none₃
      (omega (arith, c.if-r-p-2.false, c.if-p-r-2.false));
}

pub returns-then-r-q-2 : goal.returns-then-r-q-2
returns-then-r-q-2 c =
    record {
      says = λ x y z i j k.
          tris_rqp (omega (arith, c.if-r-q-2.true))
          (omega (arith, c.if-q-p.true))
          (c.tri-then-r-q-2.ensures.says y x z j i k);
    }

pub returns-else-r-q-2 : goal.returns-else-r-q-2
returns-else-r-q-2 c =
    record { says = λ x y z i j k. tris_none₂ (omega (arith, c.if-r-q-2.false, c.if-q-r-2.false)) }

pub returns-else-q-p : goal.returns-else-q-p
returns-else-q-p c =
    record { says = λ x y z i j k. tris_none₁ (omega (arith, c.if-q-p.false, c.if-p-q.false)) }
