use Rattle.pair_steps.proofs.TokenLaws.{tokens_narrow}
use Rattle.pair_steps.proofs.tokens_at.Goals as goal

pub returns : goal.returns
returns c =
    tokens_narrow _ _ _ _ c.first_stop-t.ensures
    c.first_stop-v.ensures
    c.second_stop-u.ensures
    c.second_stop-s.ensures c.begins_left-m1.ensures
    c.nodes_leave-m2.ensures c.kids_leave.ensures
