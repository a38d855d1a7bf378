-- Equal sets are put at once, others one after the other.
use borrow.Author.Rules.{rules}
use Rattle.cuts.proofs.PutLaws.{pair_put, pair_same}
use Rattle.cuts.proofs.put_pair.Goals as goal

pub returns-then-t : goal.returns-then-t
returns-then-t c =
    pair_same c.args.t c.if-t.true
    c.put_twice.ensures

pub returns : goal.returns
returns c =
    pair_put c.args.t (search rules) (search rules) c.put_bits.ensures
    c.put_bits-2.ensures
