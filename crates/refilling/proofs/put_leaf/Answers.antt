use native.Mathlib.Omega.{arith}
use Rattle.refilling.proofs.put_leaf.Goals as goal

pub put-requires : goal.put-requires
put-requires c = record {
  n_bound = (
    c.requires.n_bound.0,
    record {
      few = omega (arith, c.requires.n_bound.0);
      fits = omega (arith, c.requires.n_bound.1);
      enough = c.requires.n_in_bounds;
    },
    omega arith,
  );
  mirrored = c.requires.mirrored;
}

pub returns : goal.returns
returns c = let p = c.put.ensures in record { wrote_pair = p.wrote_pair; mirrored_2 = p.mirrored_2 }
