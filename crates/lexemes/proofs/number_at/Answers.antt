-- `number_at` meets its contract.
use native.Mathlib.Omega.{arith}
use Rattle.lexemes.proofs.Laws.{number_there, number_not, digits_length}
use lib.ListN.{drop, length-drop}
use Prim.Native.Nat.{◌+◌}
use Rattle.lexemes.proofs.number_at.Goals as goal

pub slice_bounds-number-end : goal.slice_bounds-number-end
slice_bounds-number-end c =
    let a = c.args in
    omega (
      arith,
      c.digits_end-e.ensures,
      digits_length (drop (a.at + 1) a.s.now),
      length-drop
          (a.at + 1) a.s.now,
    )

pub returns-in_err-v : goal.returns-in_err-v
returns-in_err-v c =
    let a = c.args in
    rw c.from_residual.ensures
    (number_not a.s.now a.at c.digits_end-e.result c.digits_end-e.ensures c.in_err-v.ensures)

pub returns : goal.returns
returns c =
    let a = c.args in
    number_there a.s.now a.at c.digits_end-e.result c.digits_end-e.ensures c.in_ok-v.v
    c.in_ok-v.ensures
