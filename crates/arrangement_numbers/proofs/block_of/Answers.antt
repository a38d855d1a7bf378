-- The run of numbers of those that share the first cells.
use mathlib.Core.Path.{ap₂}
use Prim.Native.Nat.{◌<◌, ◌^◌, ◌*◌}
use native.Mathlib.Omega.{arith}
use Rattle.candidates.specs.Arrays.{cells}
use Rattle.arrangement_numbers.proofs.BlockLaws.{block_small}
use Rattle.arrangement_numbers.proofs.block_of.Lts
use Rattle.arrangement_numbers.proofs.block_of.Reads
use Rattle.arrangement_numbers.proofs.block_of.Tie
use Rattle.arrangement_numbers.proofs.block_of.Goals as goal

below : (c : Lts.Start Tie.the-claims Reads.Pre Reads.Post Tie.handed_clauses) → c.args.set < 2 ^ 64
below c = omega (arith, c.well_formed)

pub overflow_mul-result : goal.overflow_mul-result
overflow_mul-result c =
    rw (c.front_number-v.ensures, c.room_past-size.ensures)
    (omega (
      arith,
      block_small c.args.set c.args.n (below c.before.before) c.requires.few c.args.b
          (cells c.args.c 0 c.args.n) c.requires.b_le_n c.requires.candidate,
    ))

pub returns : goal.returns
returns c =
    let e = ap₂ ◌*◌ c.front_number-v.ensures c.room_past-size.ensures in (
      e,
      c.room_past-size.ensures,
      omega (
        arith,
        e,
        c.room_past-size.ensures,
        block_small c.args.set c.args.n (below c.before.before)
            c.requires.few c.args.b (cells c.args.c 0 c.args.n) c.requires.b_le_n
            c.requires.candidate,
      ),
    )
