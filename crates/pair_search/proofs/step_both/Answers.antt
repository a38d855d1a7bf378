use Rattle.pair_search.proofs.RunLaws.{ran_then, ran_of, ready_same, exchanged}
use Rattle.pair_search.proofs.step_both.Goals as goal

pub step_entry-two-requires : goal.step_entry-two-requires
step_entry-two-requires c =
    let r = c.requires in
    let v = c.step_entry-one.ensures in (
      ready_same v.size v.past r.ready.0,
      r.k_lt_n.1,
      r.ready.2,
      r.ready.1,
      r.ready.4,
      r.ready.3,
    )

pub returns : goal.returns
returns c =
    ran_then {Q = λ t. Unit {0}} (λ p q. tt)
    c.step_entry-one.ensures
    (ran_of (λ g h. exchanged h) (λ p. tt) c.step_entry-two.ensures)
