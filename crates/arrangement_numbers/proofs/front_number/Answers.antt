-- The number of the first cells, a cell at a time.
use mathlib.Core.Path.{◌≡◌, refl}
use Prim.Native.Nat.{◌<◌, ◌^◌}
use native.Mathlib.Omega.{arith}
use Rattle.arrangement_numbers.proofs.Working.{ranged_at, front_turn, front_fits}
use Rattle.arrangement_numbers.proofs.front_number.Lts
use Rattle.arrangement_numbers.proofs.front_number.Reads
use Rattle.arrangement_numbers.proofs.front_number.Tie
use Rattle.arrangement_numbers.proofs.front_number.Goals as goal

below : (c : Lts.Start Tie.the-claims Reads.Pre Reads.Post goal.the-invariant-loop-i
    goal.the-decreases-loop-i Tie.handed_clauses) → c.args.set < 2 ^ 64
below c = omega (arith, c.well_formed)

pub loop-i-init : goal.loop-i-init
loop-i-init c = (omega arith, refl)

pub cell-requires : goal.cell-requires
cell-requires c = omega (arith, c.requires.few.high, c.requires.b_le_n, c.loop-i-test.true)

pub cell_number-x-requires : goal.cell_number-x-requires
cell_number-x-requires c = record {
  n_bound = c.requires.few.high;
  ranged = ranged_at c.args.set c.args.n (below c.before.before.before) c.requires.few c.args.c
      c.requires.candidate c.loop-i.i (omega (arith, c.requires.b_le_n, c.loop-i-test.true)) _
      c.cell.ensures;
}

pub choices_at-requires : goal.choices_at-requires
choices_at-requires c = c.requires.few.high

pub overflow_mul-v : goal.overflow_mul-v
overflow_mul-v c =
    omega (
      arith,
      front_fits c.args.set c.args.n (below c.before.before.before.before.before) c.requires.few
          c.args.c
          c.requires.candidate c.loop-i.i _ _ _ _
          (omega (arith, c.requires.b_le_n, c.loop-i-test.true))
          c.loop-i.invariant.1 c.choices_at.ensures c.cell.ensures
          c.cell_number-x.ensures,
    )

pub overflow_add-v : goal.overflow_add-v
overflow_add-v c =
    omega (
      arith,
      front_fits c.args.set c.args.n (below c.before.before.before.before.before) c.requires.few
          c.args.c
          c.requires.candidate c.loop-i.i _ _ _ _
          (omega (arith, c.requires.b_le_n, c.loop-i-test.true))
          c.loop-i.invariant.1 c.choices_at.ensures c.cell.ensures
          c.cell_number-x.ensures,
    )

pub loop-i-preserved : goal.loop-i-preserved
loop-i-preserved c = (
  omega (arith, c.loop-i-test.true),
  front_turn c.args.set c.args.n (below c.before.before.before.before.before) c.requires.few
      c.args.c c.requires.candidate
      c.loop-i.i _ _ _ _ (omega (
        arith,
        c.requires.b_le_n,
        c.loop-i-test.true,
      )) c.loop-i.invariant.1 c.choices_at.ensures c.cell.ensures
      c.cell_number-x.ensures,
)

pub returns : goal.returns
returns c =
    let e : c.loop-i.i ≡ c.args.b = omega (arith, c.loop-i.invariant.0, c.loop-i-test.false) in
    rw (← e) c.loop-i.invariant.1
