-- The pair is given, and the spans with the token are filled.
use native.Mathlib.Omega.{arith}
use Rattle.candidates.proofs.Windows.{cells_size}
use Rattle.pruning.proofs.Trying.{wrote_loose, ready_loose, try_terminal_settled}
use Rattle.pruning.proofs.try_terminal.Goals as goal

pub put_leaf-requires : goal.put_leaf-requires
put_leaf-requires c = record {
  n_bound = (omega (arith, c.requires.n_bound.0), c.requires.n_bound.2);
  n_in_bounds = c.requires.n_in_bounds;
  mirrored = c.requires.mirrored;
}

pub no_two-requires : goal.no_two-requires
no_two-requires c =
    let a = c.args in
    let d = c.draft-d in
    let e = d.ensures in
    let w = c.put_leaf.ensures.wrote_pair in record {
      count_bound =
          (omega (arith, e.1, c.requires.n_bound.0), omega (arith, e.1, e.2, c.requires.n_bound));
      count_in_bounds = rw e.1 (omega (arith, w.kept.long, c.requires.n_in_bounds));
      formed = c.requires.formed;
      ready = ready_loose c.requires.n_bound.1 c.requires.n_bound.2 d.result
          (cells_size a.c 0 a.n) e.0 e.1 e.2
          (wrote_loose c.requires.n_bound.1 c.requires.n_bound.2 w c.requires.terminal_open);
      mirrored = rw e.1
          c.put_leaf.ensures.mirrored_2;
    }

pub returns : goal.returns
returns c =
    let a = c.args in
    let d = c.draft-d in
    let e = d.ensures in
    let w = c.put_leaf.ensures.wrote_pair in
    let t = c.requires.tabled in record {
      terminal_tried =
          try_terminal_settled c.requires.n_bound.1 c.requires.n_bound.2 d.result
          (cells_size a.c 0 a.n)
          e.0
          e.1 e.2 t.2 w (t.0.leaf a.x t.1) c.requires.terminal_open
          c.no_two.ensures.settles;
      mirrored_2 = rw e.1 at
          c.no_two.ensures.mirrored_2;
    }
