-- `reports::clear_rest` meets its contract: a pair, and then the byte `-` and the end.
use Rattle.sets.proofs.Says.{fails}
use Rattle.reports.specs.Rests.{PairTo}
use Rattle.reports.proofs.RestLaws.{clear_none, clear_says}
use Rattle.reports.proofs.clear_rest.Goals as goal

pub returns-in_default : goal.returns-in_default
returns-in_default c =
    let a = c.args in
    let e = c.pair_end.ensures in
    fails (clear_none a.s.now a.at (rw c.in_default.is at e))

pub ends_with-requires : goal.ends_with-requires
ends_with-requires c =
    let pair : PairTo c.args.s.now c.args.at c.in-Some.a = rw c.in-Some.is at c.pair_end.ensures in
    pair.inside

pub returns : goal.returns
returns c =
    let pair : PairTo c.args.s.now c.args.at c.in-Some.a = rw c.in-Some.is at c.pair_end.ensures in
    let a = c.args in clear_says a.s.now a.at pair c.ends_with.ensures
