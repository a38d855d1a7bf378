-- `tried_count::of_length` meets its contract.
use Prim.Native.Nat.{◌<◌, ◌^◌}
use native.Mathlib.Omega.{arith}
use Rattle.tried_count.proofs.Trying.{long_all, long_none, whole_counts, whole_small}
use Rattle.tried_count.proofs.of_length.Lts
use Rattle.tried_count.proofs.of_length.Reads
use Rattle.tried_count.proofs.of_length.Tie
use Rattle.tried_count.proofs.of_length.Goals as goal

below : (c : Lts.Start Tie.the-claims Reads.Pre Reads.Post Tie.handed_clauses) → c.args.set < 2 ^ 64
below c = omega (arith, c.well_formed)

pub whole-requires : goal.whole-requires
whole-requires c = rw c.terminal_count-t.ensures.ones c.requires

pub returns-then-has : goal.returns-then-has
returns-then-has c =
    let e = c.terminal_count-t.ensures.ones in record {
      how_many = rw c.whole.ensures (long_all _ _ _
          (c.has.ensures.is c.if-has.true)
          (whole_counts _ (below c.before.before.before.before) _ _ e c.requires));
      upper_bound = omega (
        arith,
        c.whole.ensures,
        whole_small c.terminal_count-t.result c.args.n
            (rw e c.requires),
      );
    }

pub returns : goal.returns
returns c = record {
  how_many = long_none _ _ _ (c.has.ensures.isnt c.if-has.false);
  upper_bound = omega arith;
}
