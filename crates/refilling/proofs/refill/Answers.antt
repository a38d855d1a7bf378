use mathlib.Core.Path.{◌≡◌, refl, ◌∙◌, subst}
use Prim.Native.Nat.{ℕ, ◌+◌, ◌-◌}
use native.Mathlib.Omega.{arith}
use Rattle.grammar.specs.Content.{rules_of}
use Rattle.marks.specs.Drafts.{half}
use Rattle.spans.proofs.ChangeLaws.{past_same, past_then}
use Rattle.chart.specs.Filling.{Filled, FilledFrom}
use Rattle.chart.proofs.FillLaws.{whole, given_same, given_then}
use Rattle.chart.proofs.SheetLaws.{begun, charted}
use Rattle.refilling.proofs.KeptLaws.{suits}
use Rattle.refilling.proofs.refill.Goals as goal

pub loop-start-init : goal.loop-start-init
loop-start-init c =
    let a = c.args in
    let r = c.requires.ready in
    let w = whole c.args.d c.well_formed.1.1.0.1.1.0.1.0.1 (omega arith) c.requires.count_bound.0
    c.requires.count_bound.1 in (
      r.within,
      record {
        filled = begun a.words.now (rules_of a.g) (half a.d) a.d.count a.from
            a.to
            c.requires.formed.distinct (omega (arith, w.long, w.inner)) r;
        given = given_same _ _;
        past = past_same _ _;
      },
      suits c.requires.mirrored.prepared r.right,
      c.requires.mirrored,
      refl,
    )

pub fill_start-requires : goal.fill_start-requires
fill_start-requires c =
    let l = c.loop-start in
    let a = c.args in
    let e : l.start ≡ l.start - 1 + 1 = omega (arith, c.loop-start-test.true) in record {
      whole = (
        whole c.args.d c.well_formed.1.1.0.1.1.0.1.0.1 (omega arith) c.requires.count_bound.0
            c.requires.count_bound.1,
        c.requires.count_bound.0,
        omega
            (arith, c.loop-start-test.true, l.invariant.0),
      );
      count_in_bounds = omega (arith, l.invariant.1.past.long, c.requires.count_in_bounds);
      formed = (c.requires.formed, l.invariant.2);
      mirrored = l.invariant.3;
      filled = subst (λ (s : ℕ). Filled l.words (rules_of a.g) (half a.d) a.d.count
          a.from s (a.d.count + 1)) e l.invariant.1.filled;
    }

pub loop-start-smaller : goal.loop-start-smaller
loop-start-smaller c =
    omega (arith, c.loop-start-test.true)

pub loop-start-preserved : goal.loop-start-preserved
loop-start-preserved c =
    let l = c.loop-start.invariant in
    let f = c.fill_start.ensures in (
      omega (arith, l.0),
      record {
        filled = f.filled_from.filled;
        given = given_then l.1.given f.filled_from.given;
        past = past_then l.1.past f.filled_from.past;
      },
      f.suits,
      f.mirrored_2,
      c.fill_start.auto.kept ∙ l.4,
    )

pub shape_of-words : goal.shape_of-words
shape_of-words c = c.loop-start.invariant.1.past.long

pub shape_of-kept : goal.shape_of-kept
shape_of-kept c = c.loop-start.invariant.4

pub returns : goal.returns
returns c =
    let a = c.args in
    let l = c.loop-start in
    let w = whole c.args.d c.well_formed.1.1.0.1.1.0.1.0.1 (omega arith) c.requires.count_bound.0
    c.requires.count_bound.1 in
    let e : l.start ≡ 0 = omega (arith, c.loop-start-test.false) in record {
      charted = charted a.words.now l.words (rules_of a.g) (half a.d) a.d.count w.long
          w.inner a.from
          (subst (FilledFrom a.words.now l.words (rules_of a.g) (half a.d)
          a.d.count
          a.from) e l.invariant.1);
      mirrored_2 = l.invariant.3;
    }
