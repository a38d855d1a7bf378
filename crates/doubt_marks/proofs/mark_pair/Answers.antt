-- `doubt_marks::mark_pair` meets its contract.
use mathlib.Core.Logic.{⊎_elim}
use native.Mathlib.Omega.{arith}
use Rattle.doubt_marks.proofs.GrowLaws.{grows_map, grows_still}
use Rattle.doubt_marks.proofs.mark_pair.Goals as goal

pub returns-then-q-p : goal.returns-then-q-p
returns-then-q-p c = grows_still (λ a b d. omega (arith, d.row, d.column, d.up, c.if-q-p.true))

pub returns-then-may : goal.returns-then-may
returns-then-may c =
    grows_map c.set_bit.ensures
    (λ a b o.
    record {
      row = o.row;
      column = o.column;
      up = omega (
        arith,
        o.row,
        o.column,
        c.if-q-p.false,
      );
      differ = λ e d. ⊎_elim (λ w. omega (arith, w)) (λ w. omega (arith, w)) c.if-i-j.branch-raw;
      may = c.may.ensures.is
          c.if-may.true;
    }) (λ a b d. record { row = d.row; column = d.column })

pub returns-else-may : goal.returns-else-may
returns-else-may c = grows_still (λ a b d. c.may.ensures.isnt c.if-may.false d.may)
