use native.Mathlib.Omega.{arith}
use Prim.Native.Nat.{◌+◌}
use Rattle.filling.proofs.ClosingLaws.{found_by}
use Rattle.refilling.proofs.KeptLaws.{rows_say, column_says, suits_same}
use Rattle.refilling.proofs.close.Goals as goal

pub returns : goal.returns
returns c = let a = c.args in
    let p = c.put.ensures in
    let u = c.requires.formed.1 in
    let m = c.requires.mirrored.mirror in
    let fit = c.requires.n_bound.1.fits in record {
      cut_joins = found_by (omega (arith, c.requires.n_bound.0)) fit c.requires.formed.0.small
          (a.n + 1) 0 (omega arith)
          (omega arith)
          (rows_say (omega (arith, c.requires.n_bound.2)) m) (column_says fit m) u.begins
          u.chains c.find-t.ensures
          p.wrote_pair;
      suits = suits_same a.n a.start a.len c.requires.n_bound.2
          c.requires.mirrored.prepared.rules.size p.wrote_pair.kept p.same_rules u;
      mirrored_2 = p.mirrored_2;
    }
