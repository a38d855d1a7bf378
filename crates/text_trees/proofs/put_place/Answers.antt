-- `put_place` meets its contract, part by part.
use native.Mathlib.Omega.{arith}
use Rattle.printing.proofs.Writing.{wrote_then}
use Rattle.text_trees.specs.Places.{place_text}
use Rattle.text_trees.proofs.put_place.Goals as goal

pub returns : goal.returns
unfolding place_text
returns c = record {
  wrote = wrote_then c.put_small-a.ensures.wrote
      (wrote_then c.put_small-b.ensures.wrote c.put_small.ensures.wrote);
  upper_bound = omega (
    arith,
    c.put_small-a.ensures.upper_bound,
    c.put_small-b.ensures.upper_bound,
    c.put_small.ensures.upper_bound,
  );
}
