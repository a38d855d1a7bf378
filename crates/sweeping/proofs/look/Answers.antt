-- A look meets its contract: by the candidate alone where it is no better than an earlier one, else
-- by refuting the block, and where no cell is open by the sentence's own sheet.
use native.Mathlib.Omega.{arith}
use Rattle.spans.proofs.ChangeLaws.{past_same}
use Rattle.sweeping.proofs.Looking.{looked_earlier_twin, looked_refuted, looked_whole}
use Rattle.sweeping.proofs.look.Goals as goal

pub earlier_twin-requires : goal.earlier_twin-requires
earlier_twin-requires c =
    (omega (arith, c.if-b-gt0.true), c.requires.n_bound.1, c.requires.n_bound.0)

pub returns-then-earlier_twin : goal.returns-then-earlier_twin
returns-then-earlier_twin c = record {
  looked = (
    looked_earlier_twin c.requires.n_bound.0 (c.earlier_twin.ensures c.if-earlier_twin.true),
    past_same
        _ _,
  );
  mirrored_2 = c.requires.mirrored;
}

pub has_two-requires : goal.has_two-requires
has_two-requires c = record {
  n_bound = (c.requires.n_bound.0, c.requires.n_bound.2);
  formed = c.requires.formed;
  n_in_bounds = c.requires.n_in_bounds;
  tabled = c.requires.tabled;
  mirrored = c.requires.mirrored;
}

pub returns-then-b-n : goal.returns-then-b-n
returns-then-b-n c = let h = c.has_two.ensures in record {
  looked = (
    looked_whole c.if-b-n.true
        h.says.0,
    h.says.1,
  );
  mirrored_2 = h.mirrored_2;
}

pub refutes-requires : goal.refutes-requires
refutes-requires c = c.requires

pub returns : goal.returns
returns c = let h = c.refutes.ensures in record {
  looked = (
    looked_refuted c.requires.n_bound.0
        c.if-b-n.false h.replaceable.0,
    h.replaceable.1,
  );
  mirrored_2 = h.mirrored_2;
}
