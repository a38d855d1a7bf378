use Rattle.range_marks.proofs.Stretching.{stretching}
use Rattle.range_marks.proofs.stretched.Goals as goal

pub returns : goal.returns
returns c =
    stretching c.with_next-m.ensures c.low_token-x.ensures
    c.high_token-y.ensures c.high_token-v.ensures
    c.overlap.ensures c.included.ensures
