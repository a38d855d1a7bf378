-- `doubt_marks::Selves::shape` meets its contract.
use Rattle.doubt_marks.proofs.GrowLaws.{grows_map, grows_still}
use Rattle.doubt_marks.proofs.SelvesSearch.shape.Goals as goal

pub returns-then-may : goal.returns-then-may
returns-then-may c =
    grows_map c.set_bit.ensures
    (λ p q o. record { row = o.row; column = o.column; may = c.may.ensures.is c.if-may.true })
    (λ p q d. record { row = d.row; column = d.column })

pub returns-else-may : goal.returns-else-may
returns-else-may c = grows_still (λ p q d. c.may.ensures.isnt c.if-may.false d.may)
