use Rattle.pair_search.proofs.RunLaws.{ready_same}
use Rattle.pair_search.proofs.RoundLaws.{quick_then}
use Rattle.pair_search.proofs.settle.Goals as goal

pub passes-two-requires : goal.passes-two-requires
passes-two-requires c =
    let q = c.quick-one.ensures in (
      ready_same q.size q.past
          c.requires.0,
      c.requires.1,
    )

pub returns : goal.returns
returns c = quick_then c.quick-one.ensures c.passes-two.ensures
