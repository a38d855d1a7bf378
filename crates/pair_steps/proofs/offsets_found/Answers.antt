use Rattle.pair_steps.proofs.FoundLaws.{none_ac, none_an, none_mc, found_all}
use Rattle.pair_steps.proofs.offsets_found.Goals as goal

pub returns-then-ac-eq0 : goal.returns-then-ac-eq0
returns-then-ac-eq0 c = none_ac _ _ _ _ _ _ _ c.first_stop-t.ensures
    c.first_stop-v.ensures c.starts_left-ac.ensures c.if-ac-eq0.true

pub returns-then-an-eq0 : goal.returns-then-an-eq0
returns-then-an-eq0 c = none_an _ _ _ _ _ _ _
    c.first_stop-t.ensures
    c.second_stop-s.ensures c.start_cut_left-an.ensures
    c.if-an-eq0.true

pub returns-then-mc-eq0 : goal.returns-then-mc-eq0
returns-then-mc-eq0 c = none_mc _ _ _ _ _ _ _
    c.second_stop-u.ensures
    c.first_stop-v.ensures
    c.cut_start_left-mc.ensures c.if-mc-eq0.true

pub returns : goal.returns
returns c =
    found_all _ _ _ _ _ _ _ c.first_stop-t.ensures
    c.first_stop-v.ensures
    c.second_stop-u.ensures c.second_stop-s.ensures _
    c.starts_left-ac.ensures
    c.start_cut_left-an.ensures c.cut_start_left-mc.ensures
    c.cuts_left-mn.ensures
    c.own_left-am.ensures
    c.own_left-cn.ensures
    c.offsets_left.ensures
