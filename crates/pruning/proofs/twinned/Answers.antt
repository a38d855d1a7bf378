-- The words are poised with all terminals from b on open, and then all terminals are tried.
use borrow.Author.Tests.{not-true}
use native.Mathlib.Omega.{arith}
use Rattle.spans.proofs.ChangeLaws.{past_then}
use Rattle.candidates.proofs.Spelling.{low_steps}
use Rattle.pruning.proofs.RefutingLaws.{twinned_all}
use Rattle.pruning.proofs.twinned.Goals as goal

pub begin-requires : goal.begin-requires
begin-requires c = record {
  n_bound = (c.requires.n_bound.0, c.requires.n_bound.1, c.requires.n_bound.2);
  formed = c.requires.formed;
  n_in_bounds = c.requires.n_in_bounds;
  tabled = c.requires.tabled;
  mirrored = c.requires.mirrored;
}

pub try_terminals-requires : goal.try_terminals-requires
try_terminals-requires c =
    let p = c.begin.ensures in record {
      n_bound = (
        c.requires.n_bound.0,
        c.requires.n_bound.1,
        omega arith,
        low_steps c.requires.n_bound.2,
        c.requires.n_bound.3,
        c.requires.n_bound.4,
      );
      formed = c.requires.formed;
      n_in_bounds = omega (arith, c.requires.n_in_bounds, p.past.long);
      tabled = c.requires.tabled;
      terminals_filled = p.terminals_filled;
      mirrored = p.mirrored_2;
    }

pub returns : goal.returns
returns c =
    let q = c.try_terminals.ensures in record {
      replaceable = (
        λ e. twinned_all (q.done.out (not-true _ e)),
        past_then
            c.begin.ensures.past q.done.past,
      );
      mirrored_2 = q.mirrored_2;
    }
