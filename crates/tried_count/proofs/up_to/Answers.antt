use mathlib.Core.Path.{◌≡◌}
use Prim.Native.Nat.{◌+◌, ◌-◌, ◌*◌, ◌≤◌}
use native.Mathlib.Omega.{arith}
use Rattle.sets.specs.Sets.{In}
use Rattle.candidates.specs.Terminals.{Among}
use Rattle.counting.specs.Counts.{HowMany}
use Rattle.tried_count.specs.Tried.{Sized}
use Rattle.tried_count.proofs.Trying.{sized_none, sized_more}
use Rattle.tried_count.proofs.up_to.Goals.{After-of_length-total}
use Rattle.tried_count.proofs.up_to.Goals as goal

pub loop-n-init : goal.loop-n-init
loop-n-init c = (omega arith, omega arith, sized_none _ _)

pub of_length-total-requires : goal.of_length-total-requires
of_length-total-requires c = c.requires.1.each _ (omega arith) (omega arith)

pub overflow_add-total : goal.overflow_add-total
overflow_add-total c = omega (
  arith,
  c.loop-n.invariant.1,
  c.of_length-total.ensures.upper_bound,
  c.loop-n-test.true,
  c.requires.0,
)

-- those of n tokens are counted too
counted : (c : After-of_length-total) → (HowMany (Sized (In c.args.lengths) (Among c.args.set)
    c.loop-n.n) (c.loop-n.total + c.of_length-total.result))
    × (c.loop-n.total + c.of_length-total.result ≤ c.loop-n.n * 5772436045824)
counted c = (
  sized_more _ _ _ (omega arith) c.loop-n.invariant.2 c.of_length-total.ensures.how_many,
  omega (arith, c.loop-n.invariant.1, c.of_length-total.ensures.upper_bound),
)

pub loop-n-preserved : goal.loop-n-preserved
loop-n-preserved c =
    let e : c.loop-n.n + 1 - 1 ≡ c.loop-n.n = omega arith in
    let k = counted c.before in (omega arith, rw e k.1, rw e k.0)

pub returns-2 : goal.returns-2
returns-2 c =
    let e : c.loop-n.n ≡ c.args.k = omega arith in
    let k = counted c.before in
    record { how_many = rw (← e) k.0; upper_bound = rw (← e) k.1 }

pub returns : goal.returns
returns c =
    let e : c.loop-n.n - 1 ≡ c.args.k = omega (arith, c.loop-n-test.false, c.loop-n.invariant.0) in
    record { how_many = rw (← e) c.loop-n.invariant.2; upper_bound = rw (← e) c.loop-n.invariant.1 }
