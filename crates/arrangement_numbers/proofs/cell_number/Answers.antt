-- A cell's number: its terminal's place, its step and its column are the digits.
use Prim.Native.Nat.{◌≤◌}
use native.Mathlib.Omega.{arith}
use Rattle.arrangement_numbers.proofs.Working.{digit_is, digit_small, product_small}
use Rattle.arrangement_numbers.proofs.Working.{largest_small}
use Rattle.candidates.proofs.Members.{below_small}
use Rattle.arrangement_numbers.proofs.cell_number.Goals.{After-steps_at}
use Rattle.arrangement_numbers.proofs.cell_number.Goals as goal

pub members_below-t-requires : goal.members_below-t-requires
members_below-t-requires c = c.requires.ranged.terminal.0

-- the terminal's place is at most 64, the step at most 2
low : (c : After-steps_at) → c.members_below-t.result ≤ 64
low c =
    let p = c.members_below-t in
    omega (
      arith,
      p.ensures,
      below_small c.args.set c.args.c.terminal,
      c.requires.ranged.terminal.0,
    )

step : (c : After-steps_at) → c.args.c.step ≤ 2
step c = omega (arith, c.requires.ranged.step, largest_small c.args.i)

pub overflow_mul-result : goal.overflow_mul-result
overflow_mul-result c =
    rw c.steps_at.ensures (omega
    (arith, product_small _ _ _ (low c) (largest_small c.args.i) c.requires.n_bound))

pub overflow_add-result : goal.overflow_add-result
overflow_add-result c =
    rw c.steps_at.ensures (omega
    (arith, step c, product_small _ _ _ (low c) (largest_small c.args.i) c.requires.n_bound))

pub overflow_mul-result-2 : goal.overflow_mul-result-2
overflow_mul-result-2 c =
    rw c.steps_at.ensures (omega
    (arith, digit_small _ _ _ _ (low c) (largest_small c.args.i) (step c) c.requires.n_bound))

pub overflow_add-result-2 : goal.overflow_add-result-2
overflow_add-result-2 c =
    rw c.steps_at.ensures (omega (
      arith,
      digit_small _ _ _ _ (low c) (largest_small c.args.i) (step c) c.requires.n_bound,
      c.requires.ranged.high,
      c.requires.n_bound,
    ))

pub returns : goal.returns
returns c =
    digit_is c.args.set c.args.n c.args.i _ _ c.args.c
    c.members_below-t.ensures c.steps_at.ensures
