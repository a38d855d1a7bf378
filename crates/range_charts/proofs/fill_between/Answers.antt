use mathlib.Core.Path.{◌≡◌, subst}
use Prim.Native.Nat.{ℕ, ◌+◌, ◌-◌}
use native.Mathlib.Omega.{arith}
use Rattle.grammar.specs.Content.{rules_of}
use Rattle.spans.proofs.ChangeLaws.{past_same, past_then}
use Rattle.column_ranges.specs.RangeSentences.{ranges_of}
use Rattle.range_charts.specs.RangeCharts.{SolvedFrom, Advances}
use Rattle.range_charts.proofs.Solving.{small_same, small_then}
use Rattle.range_charts.proofs.fill_between.Goals as goal

pub loop-start-init : goal.loop-start-init
loop-start-init c =
    let q = c.requires.behind in (
      c.requires.count_fits.1,
      c.requires.count_fits.2,
      record { solved = q.solved; small = small_same _ _; past = past_same _ _ },
      q.beside,
    )

pub fill_start-requires : goal.fill_start-requires
fill_start-requires c =
    let l = c.loop-start in
    let a = c.args in
    let e : l.start ≡ l.start - 1 + 1 = omega (arith, c.loop-start-test.true) in
    record {
      count_fits = (c.requires.count_fits.0, omega (arith, c.loop-start-test.true, l.invariant.1));
      count_in_bounds = omega (arith, l.invariant.2.past.long, c.requires.count_in_bounds);
      formed = (c.requires.formed, l.invariant.3);
      solved_from = subst (λ (s : ℕ). SolvedFrom l.words (rules_of a.g) (ranges_of a.r) a.r.count
          a.from s (a.r.count + 1)) e l.invariant.2.solved;
    }

pub loop-start-smaller : goal.loop-start-smaller
loop-start-smaller c =
    omega (arith, c.loop-start-test.true)

pub loop-start-preserved : goal.loop-start-preserved
loop-start-preserved c =
    let l = c.loop-start.invariant in
    let f = c.fill_start in (
      omega (arith, c.loop-start-test.true),
      omega (arith, l.1),
      record {
        solved = f.ensures.advances.solved;
        small = small_then l.2.small f.ensures.advances.small;
        past = past_then l.2.past f.ensures.advances.past;
      },
      f.ensures.beside,
    )

pub returns : goal.returns
returns c =
    let a = c.args in
    let l = c.loop-start in
    let e : l.start ≡ a.lo = omega (arith, c.loop-start-test.false, l.invariant.0) in
    record {
      advances = subst (Advances a.words.now l.words (rules_of a.g) (ranges_of a.r) a.r.count
          a.from) e l.invariant.2;
      beside = l.invariant.3;
    }
