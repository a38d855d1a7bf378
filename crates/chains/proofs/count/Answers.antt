use mathlib.Core.Path.{sym, ◌∙◌}
use Rattle.sets.proofs.Says.{true_not_false}
use Rattle.chains.proofs.CountLaws.{count_none, count_one}
use Rattle.chains.proofs.count.Goals as goal

pub returns-then-not-when : goal.returns-then-not-when
returns-then-not-when c = let a = c.args in
    count_none a.base.now a.a a.b a.seen.now a.twice.now
    (λ w. absurd (true_not_false (sym w ∙ c.if-not-when.true)))

pub returns : goal.returns
returns c = let a = c.args in
    let m = c.met in
    count_one a.base.now a.a a.b m.result
    c.if-not-when.false m.ensures
    c.add_set.ensures
    c.add_set-2.ensures
