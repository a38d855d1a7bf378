-- `candidates::Candidate::with` meets its contract: a store changes an array at one place only.
use mathlib.Core.Path.{◌≡◌}
use mathlib.Core.Logic.{◌≢◌}
use Prim.Native.Nat.{ℕ}
use lib.ListN.{set}
use lib.Seq.{get_or-set_other}
use borrow.Author.Rules.{rules}
use Rattle.grammar.specs.declared.Cell.{Cell}
use Rattle.grammar.proofs.SweepLaws.{cell_path}
use Rattle.candidates.specs.declared.Candidate.{Candidate}
use Rattle.candidates.specs.Arrays.{cell_at}
use Rattle.candidates.proofs.Candidate.with.Goals as goal

other_cell : (c : Candidate) (i : ℕ) (d : Cell) (j : ℕ) → j ≢ i
    → cell_at (record {
      terminals = set c.terminals i d.terminal;
      steps = set c.steps i
          d.step;
      columns = set c.columns i d.column;
    }) j ≡ cell_at c j
other_cell c i d j n =
    cell_path (get_or-set_other c.terminals i j d.terminal 0 n)
    (get_or-set_other c.steps i j d.step 0 n)
    (get_or-set_other c.columns i j d.column 0 n)

pub returns : goal.returns
returns c = record {
  here = search rules;
  other = λ j n. other_cell c.args.self c.args.i c.args.c j n;
}
