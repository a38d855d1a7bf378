-- How many share the first cells, from the last token on.
use mathlib.Core.Path.{◌≡◌, refl, ◌∙◌}
use Prim.Native.Nat.{◌<◌, ◌^◌}
use native.Mathlib.Omega.{arith}
use native.Mathlib.Nat.{mul_comm}
use Rattle.arrangement_numbers.proofs.Working.{room_end, room_turn, room_fits}
use Rattle.arrangement_numbers.proofs.room_past.Lts
use Rattle.arrangement_numbers.proofs.room_past.Reads
use Rattle.arrangement_numbers.proofs.room_past.Tie
use Rattle.arrangement_numbers.proofs.room_past.Goals as goal

below : (c : Lts.Start Tie.the-claims Reads.Pre Reads.Post goal.the-invariant-loop-i
    goal.the-decreases-loop-i Tie.handed_clauses) → c.args.set < 2 ^ 64
below c = omega (arith, c.well_formed)

pub loop-i-init : goal.loop-i-init
loop-i-init c = (
  c.requires.b_le_n,
  omega arith,
  room_end c.args.set c.args.n (below c) c.requires.few
      c.args.n refl,
)

pub choices_at-v-requires : goal.choices_at-v-requires
choices_at-v-requires c = c.requires.few.high

pub overflow_mul-v : goal.overflow_mul-v
overflow_mul-v c =
    omega (
      arith,
      room_fits c.args.set c.args.n (below c.before.before.before) c.requires.few c.loop-i.i _ _
          (omega (arith, c.loop-i-test.true)) c.loop-i.invariant.1 c.loop-i.invariant.2
          c.choices_at-v.ensures,
    )

pub loop-i-smaller : goal.loop-i-smaller
loop-i-smaller c = omega (arith, c.loop-i-test.true)

pub loop-i-preserved : goal.loop-i-preserved
loop-i-preserved c = (
  omega (arith, c.loop-i-test.true),
  omega (arith, c.loop-i.invariant.1),
  mul_comm c.loop-i.v _
      ∙ room_turn
      c.args.set c.args.n (below c.before.before.before) c.requires.few c.loop-i.i _ _
      (omega (arith, c.loop-i-test.true)) c.loop-i.invariant.1 c.loop-i.invariant.2
      c.choices_at-v.ensures,
)

pub returns : goal.returns
returns c =
    let e : c.loop-i.i ≡ c.args.b = omega (arith, c.loop-i.invariant.0, c.loop-i-test.false) in
    rw (← e) c.loop-i.invariant.2
