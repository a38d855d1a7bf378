-- `doubt_marks::set_bit` meets its contract.
use Rattle.doubt_marks.proofs.GrowLaws.{bit_set}
use Rattle.doubt_marks.proofs.set_bit.Goals as goal

pub returns : goal.returns
returns c =
    rw c.with.ensures
    (bit_set c.args.t.now c.args.p c.args.q c.requires.0 c.requires.1)
