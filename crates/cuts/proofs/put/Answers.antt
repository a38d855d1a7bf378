-- Equal sets are put into rows and columns at once, others one after the other.
use mathlib.Core.Path.{sym}
use native.Mathlib.Omega.{arith}
use Rattle.cuts.proofs.PutLaws.{pair_same}
use Rattle.cuts.proofs.put.Goals as goal

pub returns-then-end-lt64 : goal.returns-then-end-lt64
returns-then-end-lt64 c =
    let x = c.put_both.ensures in
    let t = c.args.t in
    let e = sym c.if-t.true in record {
      put_row = record {
        size = x.put_pair.size;
        inner = λ h. pair_same t e x.put_pair;
        last = λ h. absurd (omega (
          arith,
          c.if-end-lt64.true,
        ));
      };
      put_pair = pair_same t e x.put_pair_2;
    }
