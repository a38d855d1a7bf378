-- `lengths::grow` meets its contract.
use native.Mathlib.Omega.{arith}
use Prim.Native.Nat.{◌<◌}
use Rattle.lengths.specs.Passes.{Has, GivesByIndex}
use Rattle.lengths.proofs.Growing.{makes_gives, first_small, second_small, widens_idle}
use Rattle.lengths.proofs.Growing.{widens_set}
use Rattle.lengths.proofs.grow.Lts
use Rattle.lengths.proofs.grow.Reads
use Rattle.lengths.proofs.grow.Tie
use Rattle.lengths.proofs.grow.Goals as goal

first : (c : Lts.After-first_of Tie.the-claims Reads.Pre Reads.Post) → c.first_of-b.result < 64
first c = rw c.first_of-b.ensures (first_small c.args.r.clause c.requires.1.clause)

second : (c : Lts.After-second_of Tie.the-claims Reads.Pre Reads.Post) → c.second_of-c.result < 64
second c = rw c.second_of-c.ensures (second_small c.args.r.clause c.requires.1.clause)

pub overflow_cast-b : goal.overflow_cast-b
overflow_cast-b c = omega (arith, first c)

pub overflow_cast-c : goal.overflow_cast-c
overflow_cast-c c = omega (arith, second c)

pub offset_bounds-x-b : goal.offset_bounds-x-b
offset_bounds-x-b c = omega (arith, first c.before)

pub bounds-x-b : goal.bounds-x-b
bounds-x-b c = omega (arith, first c.before)

pub offset_bounds-x-c : goal.offset_bounds-x-c
offset_bounds-x-c c = omega (arith, second c.before)

pub bounds-x-c : goal.bounds-x-c
bounds-x-c c = omega (arith, second c.before)

pub given-s-requires : goal.given-s-requires
given-s-requires c = let s = c.requires.0 in
    (s.small _, s.small _)

pub bounds-x-a : goal.bounds-x-a
bounds-x-a c =
    omega (arith, c.requires.1.left)

-- what the rule gives
gives : (c : Lts.After-given Tie.the-claims Reads.Pre Reads.Post)
    → Has (GivesByIndex c.args.w.index c.args.r.clause)
    c.given-s.result
gives c =
    let a = c.args in
    makes_gives a.w.index a.r.clause _ _ c.given-s.result
    c.first_of-b.ensures
    c.second_of-c.ensures c.given-s.ensures

pub returns-then-old-s : goal.returns-then-old-s
returns-then-old-s c =
    widens_idle c.args.w c.args.r _ c.requires.0 (gives c.before.before.before)
    c.if-old-s.true

pub bounds-x-a-2 : goal.bounds-x-a-2
bounds-x-a-2 c =
    omega (
      arith,
      c.requires.1.left,
    )

pub with-requires : goal.with-requires
with-requires c =
    c.requires.1.left

pub returns : goal.returns
returns c =
    widens_set c.args.w c.args.r _ _ c.requires.0 c.requires.1.left
    (gives c.before.before.before.before) c.if-old-s.false c.with.ensures
