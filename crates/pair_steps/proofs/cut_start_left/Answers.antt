use Rattle.pair_steps.proofs.cut_start_left.Goals as goal

pub returns : goal.returns
returns c =
    let e0 = c.pair-m1.ensures in
    let e1 = c.pair-m2.ensures in
    let e2 = c.inside-m3.ensures in
    let e3 = c.ahead.ensures in
    record {
      keeps = λ k h p.
          e3.keeps k (e2.keeps k (e1.keeps k (e0.keeps k h p.0) p.1) p.2) p.3;
      only = λ k h.
          let q3 = e3.only k h in
          let q2 = e2.only k q3.0 in
          let q1 = e1.only k q2.0 in
          let q0 = e0.only k q1.0 in
          (q0.0, (q0.1, q1.1, q2.1, q3.1));
    }
