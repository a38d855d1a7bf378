use Rattle.pair_steps.proofs.cuts_left.Goals as goal

pub returns : goal.returns
returns c =
    let e0 = c.pair-m1.ensures in
    let e1 = c.ahead-m2.ensures in
    let e2 = c.ahead.ensures in
    record {
      keeps = λ k h p.
          e2.keeps k (e1.keeps k (e0.keeps k h p.0) p.1) p.2;
      only = λ k h.
          let q2 = e2.only k h in
          let q1 = e1.only k q2.0 in
          let q0 = e0.only k q1.0 in
          (q0.0, (q0.1, q1.1, q2.1));
    }
