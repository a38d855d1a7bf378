-- `doubt_marks::with_children` meets its contract.
use native.Mathlib.Omega.{arith}
use Rattle.doubt_marks.proofs.SeenLaws.{not_there, not_self, not_seen, no_child}
use Rattle.doubt_marks.proofs.SeenLaws.{one_child, two_children}
use Rattle.doubt_marks.proofs.with_children.Goals as goal

pub returns-then-not-present : goal.returns-then-not-present
returns-then-not-present c =
    not_there c.args.nodes.now c.args.own.now c.args.seen c.args.i
    (c.present.ensures.isnt c.if-not-present.true)

pub returns-then-not-has : goal.returns-then-not-has
returns-then-not-has c =
    not_self c.args.nodes.now c.args.own.now c.args.seen c.args.i
    (c.has.ensures.isnt c.if-not-has.true)

pub returns-then-not-has-2 : goal.returns-then-not-has-2
returns-then-not-has-2 c =
    not_seen c.args.nodes.now c.args.own.now c.args.seen c.args.i
    c.node_at-x.ensures.0
    (c.has-2.ensures.isnt c.if-not-has-2.true)

pub returns-then-x-eq0 : goal.returns-then-x-eq0
returns-then-x-eq0 c =
    no_child c.args.nodes.now c.args.own.now c.args.seen c.args.i
    c.node_at-x.ensures.0 c.if-x-eq0.true

pub returns-then-x-eq1 : goal.returns-then-x-eq1
returns-then-x-eq1 c =
    rw c.with-one.ensures
    (one_child c.args.nodes.now c.args.own.now c.args.seen c.args.i
    c.node_at-x.ensures.0
    (c.present.ensures.is c.if-not-present.false)
    (c.has.ensures.is
    c.if-not-has.false)
    (c.has-2.ensures.is
    c.if-not-has-2.false) c.if-x-eq1.true)

pub returns : goal.returns
returns c =
    rw (c.with.ensures, c.with-one.ensures)
    (two_children c.args.nodes.now c.args.own.now c.args.seen c.args.i
    c.node_at-x.ensures.0
    (c.present.ensures.is c.if-not-present.false)
    (c.has.ensures.is
    c.if-not-has.false)
    (c.has-2.ensures.is
    c.if-not-has-2.false)
    (omega (arith, c.if-x-eq0.false, c.if-x-eq1.false)))
