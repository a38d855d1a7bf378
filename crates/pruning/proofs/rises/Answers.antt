-- By the step and the column before.
use borrow.Author.Tests.{ltb-false, eqb-true, not-false}
use mathlib.Core.Path.{◌≡◌, sym, ap, ◌∙◌}
use native.Mathlib.Omega.{arith}
use Rattle.grammar.specs.declared.Cell.{Cell}
use Rattle.pruning.proofs.CellLaws.{cells_get, prior_before, first_step}
use Rattle.pruning.proofs.rises.Goals as goal

pub returns-then-d-eq0 : goal.returns-then-d-eq0
returns-then-d-eq0 c e q =
    let a = c.args in
    let g = cells_get a.c a.n a.i c.requires.1 in
    let d = c.cell-d.ensures in
    let s : _ = ap (λ (x : Cell). x.step) (g ∙ sym d) in
    let k : _ = ap (λ (x : Cell). x.column) (g ∙ sym d) in
    let p = prior_before a.c a.n a.i c.requires.1 in
    omega (
      arith,
      ltb-false c.column_before.result c.cell-d.result.column e,
      q.after (s ∙ c.if-d-eq0.true),
      p,
      k,
      c.column_before.ensures,
    )

pub returns : goal.returns
returns c e q =
    let a = c.args in
    let s = ap (λ (x : Cell). x.step) (cells_get a.c a.n a.i c.requires.1 ∙ sym c.cell-d.ensures) in
    let i : a.i ≡ 0 = eqb-true _ _ (not-false _ e) in
    c.if-d-eq0.false (sym s ∙ first_step i q.step)
