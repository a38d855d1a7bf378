use mathlib.Core.Path.{◌≡◌}
use native.Mathlib.Omega.{arith}
use borrow.Author.Rules.{rules}
use Rattle.pair_entries.proofs.EntryLaws.{kinds_none, kinds_more, kinds_all}
use Rattle.pair_entries.proofs.kinds_of.Goals as goal

pub loop-k-init : goal.loop-k-init
loop-k-init c = (kinds_none _, omega arith)

pub loop-k-preserved : goal.loop-k-preserved
loop-k-preserved c = (kinds_more c.loop-k.invariant.0 c.with_kind-set.ensures, search rules)

pub returns : goal.returns
returns c =
    let e : c.loop-k.k ≡ 16 = omega arith in
    kinds_all (rw e at c.loop-k.invariant.0)
