-- By the place of the token.
use mathlib.Core.Path.{sym, ap}
use native.Mathlib.Omega.{arith}
use Rattle.grammar.specs.declared.Cell.{Cell}
use Rattle.pruning.proofs.CellLaws.{cells_get}
use Rattle.pruning.proofs.slot.Goals as goal

pub returns-then-i-b : goal.returns-then-i-b
returns-then-i-b c =
    let a = c.args in
    record {
      known = λ h. ap (λ (d : Cell). d.terminal) (sym (cells_get a.c a.n a.i c.requires.1));
      free = λ h. absurd (omega (arith, c.if-i-b.true));
    }
