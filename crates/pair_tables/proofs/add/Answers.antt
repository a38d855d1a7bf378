use native.Mathlib.Omega.{arith}
use Rattle.pair_tables.specs.Stepping.{no_offsets, no_terminals, puts}
use Rattle.pair_tables.proofs.add.Goals as goal

pub returns-then-r-eq0 : goal.returns-then-r-eq0
returns-then-r-eq0 c = no_offsets c.words_of-w.ensures
    (rw c.if-r-eq0.true at c.offsets_found-r.ensures)

pub returns-then-q-eq0 : goal.returns-then-q-eq0
returns-then-q-eq0 c =
    no_terminals c.words_of-w.ensures
    c.offsets_found-r.ensures
    c.nexts_of-n.ensures
    (rw c.if-q-eq0.true at c.tokens_found-q.ensures)

pub next_place-c-requires : goal.next_place-c-requires
next_place-c-requires c = let p = c.requires.room in (p.1.sort, p.2.sort)

pub overflow_mul-i : goal.overflow_mul-i
overflow_mul-i c = let p = c.requires.room in
    omega (arith, p.1.sort, p.2.sort, p.3)

pub overflow_add-i : goal.overflow_add-i
overflow_add-i c = let p = c.requires.room in
    omega (arith, p.1.sort, p.2.sort, p.3)

pub put-requires : goal.put-requires
put-requires c =
    let p = c.requires.room in
    let q = c.next_place-c.ensures in (
      omega (arith, p.0.room, p.1.sort, p.2.sort, p.3),
      omega (arith, p.0.room, p.1.sort, p.2.sort, p.3),
      omega (arith, p.0.room, q.1),
    )

pub returns : goal.returns
returns c =
    let q = c.next_place-c.ensures.0 in
    let e = c.relation_bits-bits.ensures in
    puts c.words_of-w.ensures
    c.offsets_found-r.ensures
    c.if-r-eq0.false
    c.nexts_of-n.ensures
    c.tokens_found-q.ensures
    c.if-q-eq0.false (rw (q, e) at
    c.put.ensures)
