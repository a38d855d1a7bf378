-- `tried_count::tried` meets its contract.
use Prim.Native.Nat.{◌+◌, ◌≤◌}
use native.Mathlib.Omega.{arith}
use Rattle.sets.specs.Sets.{In}
use Rattle.candidates.specs.Arrays.{cells}
use Rattle.candidates.specs.Terminals.{Among}
use Rattle.tried_count.specs.Searched.{Hit}
use Rattle.tried_count.proofs.Trying.{fair_all, fairs_less, hit_of, tried_found}
use Rattle.tried_count.proofs.Trying.{rank_counts, rank_small}
use Rattle.tried_count.proofs.tried.Goals.{In-Some, After-rank}
use Rattle.tried_count.proofs.tried.Goals as goal

pub up_to-requires : goal.up_to-requires
up_to-requires c = (c.requires.fair.high, fair_all c.requires.fair)

pub returns-in-None : goal.returns-in-None
returns-in-None c = rw c.in-None.is c.up_to.ensures.how_many

-- the hit
hit : (c : In-Some) → Hit (In c.args.lengths) (Among c.args.set) c.args.k c.in-Some.h.length
    (cells c.in-Some.h.candidate 0 c.in-Some.h.length)
hit c = hit_of _ _ _ _ c.in-Some.is c.requires.hit

pub overflow_sub-h : goal.overflow_sub-h
overflow_sub-h c = (hit c.before.before).low

pub up_to-shorter-requires : goal.up_to-shorter-requires
up_to-shorter-requires c =
    let h = hit c.before.before in (
      omega (arith, h.high, c.requires.fair.high),
      fairs_less _ (omega (arith, h.high)) (fair_all c.requires.fair),
    )

pub rank-requires : goal.rank-requires
rank-requires c =
    let h = hit c.before.before.before.before in record {
      fair = rw c.terminal_count-t.ensures.ones
          ((fair_all c.requires.fair).each _ h.low h.high);
      candidate = h.candidate;
    }

-- both numbers are small
small : (c : After-rank) → c.up_to-shorter.result + c.rank.result ≤ 46179488366592
small c =
    let h = hit c.before.before.before.before.before in
    omega (
      arith,
      c.up_to-shorter.ensures.upper_bound,
      h.high,
      c.requires.fair.high,
      c.rank.ensures,
      rank_small c.args.set (omega (arith, c.well_formed)) c.terminal_count-t.result _ _
          c.terminal_count-t.ensures.ones
          ((fair_all c.requires.fair).each _ h.low h.high) h.candidate,
    )

pub overflow_add-result : goal.overflow_add-result
overflow_add-result c = omega (arith, small c)

pub overflow_add-result-in-Some : goal.overflow_add-result-in-Some
overflow_add-result-in-Some c = omega (arith, small c)

pub returns-in-Some : goal.returns-in-Some
returns-in-Some c =
    let h = hit c.before.before.before.before.before in
    rw c.in-Some.is
    (tried_found _ _ _ _ _ h c.up_to-shorter.ensures.how_many
    (rw c.rank.ensures (rank_counts _ (omega (arith, c.well_formed)) _ _ _
    c.terminal_count-t.ensures.ones h.candidate)))
