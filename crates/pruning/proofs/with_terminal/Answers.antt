-- One cell is changed, and its step is as it was.
use mathlib.Core.Path.{ap}
use native.Mathlib.Omega.{arith}
use Rattle.grammar.specs.declared.Cell.{Cell}
use Rattle.pruning.proofs.CellLaws.{with_terminal_of, low_changed, step_at}
use Rattle.pruning.proofs.with_terminal.Goals as goal

pub returns : goal.returns
returns c =
    let a = c.args in (
      with_terminal_of a.c c.with.result a.n a.j _ c.requires.n_bound.1 c.with.ensures,
      low_changed a.c c.with.result a.n a.j _ c.with.ensures
          (omega (
            arith,
            step_at a.c a.n a.j c.requires.n_bound.1 c.requires.low_steps,
            ap (λ (x : Cell). x.step) c.cell.ensures,
          )) c.requires.low_steps,
    )
