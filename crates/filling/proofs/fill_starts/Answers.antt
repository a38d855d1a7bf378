use borrow.Author.Rules.{rules}
use mathlib.Core.Path.{◌≡◌, refl, sym, ◌∙◌, subst}
use Prim.Native.Nat.{ℕ, ◌+◌, ◌-◌}
use native.Mathlib.Omega.{arith}
use Rattle.grammar.specs.Content.{rules_of}
use Rattle.marks.specs.Drafts.{half}
use Rattle.spans.proofs.ChangeLaws.{past_same, past_then}
use Rattle.chart.specs.Filling.{Filled, FilledFrom}
use Rattle.chart.proofs.FillLaws.{given_same, given_then}
use Rattle.filling.specs.Closing.{Columns}
use Rattle.filling.proofs.fill_starts.Goals as goal

-- src/lib.rt:206:5
pub loop-start-init : goal.loop-start-init
loop-start-init c = (
  c.requires.whole.1,
  record { filled = c.requires.filled; given = given_same _ _; past = past_same _ _ },
  c.requires.rows_len.0,
  c.requires.rows_len.1,
  c.requires.begins.0,
  refl,
)

-- src/lib.rt:207:9
-- src/lib.rt:208:9
pub fill_start-requires : goal.fill_start-requires
fill_start-requires c =
    let l = c.loop-start in
    let a = c.args in
    let e : l.start ≡ l.start - 1 + 1 = omega (arith, c.loop-start-test.true) in record {
      whole = (c.requires.whole.0, omega (arith, c.loop-start-test.true, l.invariant.0));
      count_in_bounds = omega (arith, l.invariant.1.past.long, c.requires.count_in_bounds);
      formed = c.requires.formed;
      begins = (l.invariant.4, c.requires.begins.1);
      rows_len = (
        l.invariant.2,
        subst (λ (x : ℕ). Columns l.words a.d.count x l.cols) e
            l.invariant.3,
      );
      filled = subst (λ (s : ℕ). Filled l.words (rules_of a.g) (half a.d) a.d.count
          a.from s (a.d.count + 1)) e l.invariant.1.filled;
    }

-- src/lib.rt:206:5
pub loop-start-smaller : goal.loop-start-smaller
loop-start-smaller c = omega (
  arith,
  c.loop-start-test.true,
)

-- src/lib.rt:206:5
pub loop-start-preserved : goal.loop-start-preserved
loop-start-preserved c =
    let l = c.loop-start.invariant in
    let f = c.fill_start.ensures in (
      omega (arith, l.0),
      record {
        filled = f.filled_from.filled;
        given = given_then l.1.given
            f.filled_from.given;
        past = past_then l.1.past f.filled_from.past;
      },
      search rules,
      f.columns,
      f.begins_2,
      c.fill_start.auto.cols ∙ l.5,
    )

-- src/lib.rt:187:1
pub shape_of-words : goal.shape_of-words
shape_of-words c = c.loop-start.invariant.1.past.long

-- src/lib.rt:187:1
pub shape_of-rows : goal.shape_of-rows
shape_of-rows c = c.loop-start.invariant.2 ∙ sym
    c.requires.rows_len.0

-- src/lib.rt:187:1
pub shape_of-cols : goal.shape_of-cols
shape_of-cols c = c.loop-start.invariant.5

-- src/lib.rt:187:1
pub returns : goal.returns
returns c =
    let a = c.args in
    let l = c.loop-start in
    let e : l.start ≡ 0 = omega (arith, c.loop-start-test.false) in
    subst (FilledFrom a.words.now l.words (rules_of a.g) (half a.d) a.d.count
    a.from) e
    l.invariant.1
