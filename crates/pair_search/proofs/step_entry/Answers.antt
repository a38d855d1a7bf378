use Rattle.pair_steps.specs.Tables.{LowTable}
use native.Mathlib.Omega.{arith}
use Rattle.pair_search.proofs.RunLaws.{step_ran, unsuited_ran, ran_of}
use Rattle.pair_search.proofs.step_entry.Goals as goal

pub step-requires : goal.step-requires
step-requires g c =
    let r = c.requires in
    let n = r.0.each _ r.1 in record {
      room = (record { room = omega (arith, r.0.room) }, r.2.small, r.3.small, r.4, r.5);
      from_le_end = (n.lists.low, omega (arith, n.high, r.0.room));
    }

pub add-requires : goal.add-requires
add-requires g c =
    let r = c.requires in
    let n = r.0.each _ r.1 in record {
      room = (record { room = omega (arith, r.0.room) }, r.2.small, r.3.small, r.4, r.5);
      from_le_end = (n.lists.low, omega (arith, n.high, r.0.room));
    }

pub returns-then-this-ne0 : goal.returns-then-this-ne0
returns-then-this-ne0 g c =
    let r = c.requires in
    let n = r.0.each _ r.1 in
    let w : LowTable c.args.words.now =
    record { low = λ i. omega (arith, c.slice_known-1.given i) } in
    let s = n.kinds.only _ _ r.2.kids r.3.kids (c.has.ensures.is c.if-has.true) in
    ran_of (λ g h. h) (λ p. p)
    (step_ran w r.2.small r.3.small r.4 s n.lists (rw c.frame_at-f.ensures at c.step.ensures))

pub returns-then-has : goal.returns-then-has
returns-then-has g c =
    let r = c.requires in
    let n = r.0.each _ r.1 in
    let w : LowTable c.args.words.now =
    record { low = λ i. omega (arith, c.slice_known-1.given i) } in
    let s = n.kinds.only _ _ r.2.kids r.3.kids (c.has.ensures.is c.if-has.true) in
    ran_of (λ g h. h) (λ p. p)
    (step_ran w r.2.small r.3.small r.4 s n.lists (rw c.frame_at-f.ensures at c.add.ensures))

pub returns : goal.returns
returns g c =
    let r = c.requires in
    let n = r.0.each _ r.1 in
    let w : LowTable c.args.words.now =
    record { low = λ i. omega (arith, c.slice_known-1.given i) } in
    ran_of (λ g h. h) (λ p. p)
    (unsuited_ran w (λ s. c.has.ensures.isnt c.if-has.false
    (n.kinds.has _ _ r.2.kids r.3.kids s)))
