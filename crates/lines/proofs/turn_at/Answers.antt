-- `lines::turn_at` meets its contract: the tests are the definition's, in its order.
use Rattle.lines.proofs.Turning.{ended_many, ended_few, none_left, left_many, left_few}
use Rattle.lines.proofs.turn_at.Goals as goal

pub returns-then-n-most : goal.returns-then-n-most
returns-then-n-most c = let a = c.args in
    ended_few a.s.now a.c a.most a.n c.if-end-s.true c.if-n-most.true

pub returns-then-end-s : goal.returns-then-end-s
returns-then-end-s c = let a = c.args in
    ended_many a.s.now a.c a.most a.n c.if-end-s.true c.if-n-most.false

pub returns-then-at-end : goal.returns-then-at-end
returns-then-at-end c = let a = c.args in
    none_left a.s.now a.c a.most a.n c.if-end-s.false c.if-at-end.true

pub returns-then-n-most-2 : goal.returns-then-n-most-2
returns-then-n-most-2 c =
    let a = c.args in
    left_few a.s.now a.c a.most a.n c.if-end-s.false c.requires.0
    c.requires.1 c.if-at-end.false c.if-n-most-2.true

pub returns : goal.returns
returns c =
    let a = c.args in
    left_many a.s.now a.c a.most a.n c.if-end-s.false c.requires.0
    c.requires.1 c.if-at-end.false c.if-n-most-2.false
