use mathlib.Core.Path.{◌≡◌}
use Prim.Native.Nat.{◌+◌, ◌-◌}
use native.Mathlib.Omega.{arith}
use Rattle.column_ranges.proofs.Counting.{ended_at}
use Rattle.narrowing.proofs.Walking.{singles_behind, several_here, single_here}
use Rattle.narrowing.proofs.last_token.Goals as goal

pub loop-k-init : goal.loop-k-init
loop-k-init c = c.requires.singles_from

pub columns-requires : goal.columns-requires
columns-requires c = ended_at c.requires.spread.0 _ (omega (arith, c.requires.spread.1))

pub returns-then-columns-gt1 : goal.returns-then-columns-gt1
returns-then-columns-gt1 c =
    let e : c.loop-k.k - 1 + 1 ≡ c.loop-k.k = omega (arith, c.loop-k-test.true) in
    record {
      one = several_here c.requires.spread.0 (omega (arith, c.requires.spread.1))
          c.columns.ensures c.if-columns-gt1.true;
      before = omega arith;
      behind = rw e c.loop-k.invariant;
    }

pub loop-k-preserved : goal.loop-k-preserved
loop-k-preserved c =
    singles_behind c.loop-k-test.true
    (single_here c.requires.spread.0 (omega (arith, c.requires.spread.1)) c.columns.ensures
    (λ q. omega (arith, c.if-columns-gt1.false))) c.loop-k.invariant

pub returns : goal.returns
returns c = record { each = λ k l. c.loop-k.invariant.each k (omega arith) l }
