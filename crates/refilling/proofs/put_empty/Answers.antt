use native.Mathlib.Omega.{arith}
use Rattle.spans.proofs.Places.{pairs_closed}
use Rattle.refilling.proofs.KeptLaws.{mirror_empty}
use Rattle.refilling.proofs.put_empty.Goals as goal

pub write-requires : goal.write-requires
write-requires c = omega (arith, c.requires.n_in_bounds, pairs_closed c.args.n)

pub returns : goal.returns
returns c = record {
  wrote_pair = c.write.ensures;
  mirrored_2 = record {
    prepared = c.requires.mirrored.prepared;
    mirror = mirror_empty c.write.ensures c.requires.mirrored.mirror;
  };
}
