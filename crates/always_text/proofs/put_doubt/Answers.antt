-- `put_doubt` meets its contract, part by part.
use native.Mathlib.Omega.{arith}
use Rattle.printing.proofs.Writing.{wrote_then}
use Rattle.always_text.specs.Always.{doubt_text}
use Rattle.always_text.proofs.put_doubt.Goals as goal

pub returns : goal.returns
unfolding doubt_text
returns c =
    let a = c.put_small-a.ensures in
    let b = c.put_small-b.ensures in
    let d = c.put_small-c.ensures in
    let e = c.put_why.ensures in
    let r = wrote_then a.wrote (wrote_then b.wrote (wrote_then d.wrote e.wrote)) in
    record {
      wrote = r;
      upper_bound = omega (arith, a.upper_bound, b.upper_bound, d.upper_bound, e.upper_bound);
    }
