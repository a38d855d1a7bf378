use mathlib.Core.Path.{subst}
use Prim.Native.Nat.{ℕ}
use native.Mathlib.Omega.{arith}
use Rattle.spans.specs.Changes.{WrotePair}
use Rattle.spans.proofs.Places.{pair_at_below, pairs_closed}
use Rattle.chart.proofs.SingleLaws.{written_none, written_more, written_all}
use Rattle.filling.proofs.fill_leaves.Goals as goal

pub empty_pair-e-requires : goal.empty_pair-e-requires
empty_pair-e-requires c = c.requires.formed

pub write-requires : goal.write-requires
write-requires c = omega (arith, c.requires.count_in_bounds, pairs_closed c.args.d.count)

pub loop-i-init : goal.loop-i-init
loop-i-init c = written_none _ _ c.empty_pair-e.ensures
    c.write.ensures

pub leaf_at-l-requires : goal.leaf_at-l-requires
leaf_at-l-requires c =
    let l = c.loop-i in record {
      i_lt_count = (c.loop-i-test.true, c.requires.count_bound);
      count_in_bounds = omega (
        arith,
        l.invariant.past.long,
        c.write.ensures.kept.long,
        c.requires.count_in_bounds,
      );
      formed = c.requires.formed;
      empty_pair = c.empty_pair-e.ensures;
      leading = record
          { leaves = l.invariant.leaves };
    }

pub write-requires-in-loop-i : goal.write-requires-in-loop-i
write-requires-in-loop-i c =
    let n = c.args.d.count in
    omega (
      arith,
      c.pair_at-p.ensures,
      pair_at_below n c.loop-i.i 1
          (omega (arith, c.loop-i-test.true)),
      c.loop-i.invariant.past.long,
      c.write.ensures.kept.long,
      c.requires.count_in_bounds,
    )

pub loop-i-smaller : goal.loop-i-smaller
loop-i-smaller c =
    omega (arith, c.loop-i-test.true)

pub loop-i-preserved : goal.loop-i-preserved
loop-i-preserved c =
    written_more c.loop-i-test.true c.loop-i.invariant c.leaf_at-l.ensures
    (subst (λ (x : ℕ). WrotePair c.loop-i.words c.write-in-loop-i.new.words x
    c.leaf_at-l.result.one c.leaf_at-l.result.two) c.pair_at-p.ensures
    c.write-in-loop-i.ensures)

pub returns : goal.returns
returns c = written_all (omega (arith, c.loop-i-test.false))
    c.write.ensures.kept c.loop-i.invariant
