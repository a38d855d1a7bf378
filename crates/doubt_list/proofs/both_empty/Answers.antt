-- `doubt_list::both_empty` meets its contract.
use Rattle.sets.proofs.Says.{fails, says_iff}
use Rattle.doubt_list.proofs.both_empty.Goals as goal

pub returns-then-not-has : goal.returns-then-not-has
returns-then-not-has c =
    fails (λ x. c.has.ensures.isnt c.if-not-has.true
    (c.requires.formed.2.all _ x.occurs))

pub returns-then-not-empty_by : goal.returns-then-not-empty_by
returns-then-not-empty_by c =
    fails (λ x. c.empty_by.ensures.isnt c.if-not-empty_by.true x.first)

pub returns : goal.returns
returns c =
    let o = c.has.ensures.is c.if-not-has.false in
    let f = c.empty_by.ensures.is c.if-not-empty_by.false in
    says_iff (λ x. record { occurs = c.requires.formed.2.is _ o; first = f; second = x })
    (λ x. x.second) c.empty_by-2.ensures
