-- `scanning::number_at` meets its contract: digits, and the byte behind them.
use Rattle.scanning.proofs.Ending.{no_digit, no_end, other_end, ended}
use Rattle.scanning.proofs.number_at.Goals as goal

pub returns-then-i-at : goal.returns-then-i-at
returns-then-i-at c =
    let a = c.args in
    let p = c.requires in
    no_digit a.s.now a.at a.most a.end c.digits_at-r.result p.end_bound
    c.digits_at-r.ensures c.if-i-at.true

pub returns-then-s-i : goal.returns-then-s-i
returns-then-s-i c =
    let a = c.args in
    let p = c.requires in
    no_end a.s.now a.at a.most a.end c.digits_at-r.result p.end_bound
    c.digits_at-r.ensures c.if-s-i.true

pub returns-then-s-i-2 : goal.returns-then-s-i-2
returns-then-s-i-2 c =
    let a = c.args in
    let p = c.requires in
    other_end a.s.now a.at a.most a.end c.digits_at-r.result p.end_bound
    c.digits_at-r.ensures c.if-s-i.false c.if-s-i-2.true

pub returns : goal.returns
returns c =
    let a = c.args in
    let p = c.requires in
    ended a.s.now a.at a.most a.end c.digits_at-r.result p.end_bound
    c.digits_at-r.ensures c.if-i-at.false
    c.if-s-i.false c.if-s-i-2.false
