use mathlib.Core.Path.{◌≡◌, sym, ap, ◌∙◌, subst, subst₃}
use Prim.Native.Nat.{ℕ, ◌+◌, ◌-◌, ◌≤◌, ◌<◌}
use native.Mathlib.Omega.{arith}
use Rattle.grammar.specs.Content.{rules_of}
use Rattle.spans.proofs.ChangeLaws.{past_same, past_then}
use Rattle.column_ranges.specs.declared.RangeToken.{RangeToken}
use lib.ListN.{length, get_or}
use Rattle.marks.specs.declared.SpanMarks.{SpanMarks}
use Rattle.column_ranges.specs.declared.RangeSentence.{RangeSentence}
use Rattle.column_ranges.specs.RangeSentences.{ranges_of, no_range}
use Rattle.column_ranges.proofs.Counting.{range_read}
use Rattle.range_marks.specs.RangeMarks.{first_of, Stretched}
use Rattle.range_marks.proofs.Stretching.{RangeCarried, stretch_first, stretch_more, stretch_marked}
use Rattle.range_charts.proofs.Solving.{from_more, small_more, past_wrote, small_same}
use Rattle.range_charts.proofs.Solving.{small_then, from_next, from_pass, from_end}
use Rattle.range_charts.proofs.fill_start.Goals as goal

-- the marks with the next token
marks : (r : RangeSentence) (s l : ℕ) (k m : SpanMarks) → length (ranges_of r) ≡ r.count → 0 < l
    → s + l < r.count → RangeCarried (ranges_of r) s l k
    → Stretched k (get_or r.tokens s no_range) (get_or r.tokens (s + l - 1) no_range)
    (get_or r.tokens (s + l) no_range) l m
    → RangeCarried (ranges_of r) s (l + 1) m
marks r s l k m w z h i e =
    stretch_more (ranges_of r) s l k m z (omega (arith, h, w)) i
    (subst₃ (λ (x y v : RangeToken). Stretched k x y v l m)
    (sym (range_read r s (omega (arith, h))))
    (sym (range_read r (s + l - 1) (omega (arith, h, z)))) (sym (range_read r (s + l) h)) e)

pub bounds-r-start : goal.bounds-r-start
bounds-r-start c = omega (arith, c.requires.count_fits.0.few, c.requires.count_fits.1)

pub loop-len-init : goal.loop-len-init
loop-len-init c =
    let a = c.args in
    let h : a.start < a.r.count = c.requires.count_fits.1 in (
      omega arith,
      omega arith,
      subst (RangeCarried (ranges_of a.r) a.start 1)
          (ap first_of (range_read a.r a.start h) ∙ sym c.first_of-k.ensures)
          (stretch_first (ranges_of a.r) a.start (omega (arith, c.requires.count_fits.0.whole))),
      past_same _ _,
      small_same _ _,
      from_next c.requires.solved_from,
      c.requires.formed.1,
    )

pub bounds-r-at : goal.bounds-r-at
bounds-r-at c = omega (
  arith,
  c.loop-len-test.true,
  c.requires.count_fits.0.few,
)

pub bounds-r-at-in-loop-len : goal.bounds-r-at-in-loop-len
bounds-r-at-in-loop-len c = omega (
  arith,
  c.loop-len-test.true,
  c.requires.count_fits.0.few,
)

pub stretched-k-requires : goal.stretched-k-requires
stretched-k-requires c = omega (
  arith,
  c.loop-len-test.true,
  c.requires.count_fits.0.few,
)

pub loop-len-preserved-then-at-from : goal.loop-len-preserved-then-at-from
loop-len-preserved-then-at-from c = let i = c.loop-len.invariant in (
  omega arith,
  omega (arith, c.loop-len-test.true),
  (marks c.args.r c.args.start c.loop-len.len _ _ c.requires.count_fits.0.whole i.0
      (omega (arith, c.loop-len-test.true)) i.2 c.stretched-k.ensures),
  i.3,
  i.4,
  from_pass (omega arith) i.5,
  i.6,
)

pub close-requires : goal.close-requires
close-requires c =
    let i = c.loop-len.invariant in
    let p = c.requires in
    record {
      n_bound = (
        p.count_fits.0.few,
        record {
          few = p.count_fits.0.few;
          fits = omega (arith, c.loop-len-test.true);
          enough = omega (arith, i.3.long, p.count_in_bounds);
        },
        omega arith,
      );
      formed = (p.formed.0, i.6.suits);
      mirrored = i.6.mirrored;
    }

pub loop-len-preserved : goal.loop-len-preserved
loop-len-preserved c =
    let r = c.args.r in
    let s = c.args.start in
    let g = rules_of c.args.g in
    let i = c.loop-len.invariant in
    let l = c.loop-len.len in
    let k = c.stretched-k.result in
    let e = c.close in
    let j = e.ensures.cut_joins in
    let ws = c.loop-len.words in
    let ws' = e.new.words in
    let h : s + (l + 1) ≤ r.count = omega (
      arith,
      c.loop-len-test.true,
    ) in
    let far : c.args.from < s + (l + 1) =
    omega arith in
    let long : 2 ≤ l + 1 = omega (arith, i.0) in
    let m = marks c.args.r c.args.start c.loop-len.len _ _ c.requires.count_fits.0.whole i.0
    (omega (arith, c.loop-len-test.true)) i.2 c.stretched-k.ensures in
    let q = stretch_marked (ranges_of r) s (l + 1) k m in (
      omega arith,
      h,
      m,
      past_then i.3 (past_wrote ws ws' g (ranges_of r) r.count s (l + 1) k long h q j),
      small_then i.4 (small_more ws ws' g (ranges_of r) r.count s (l + 1) k long h q j),
      from_more ws ws' g (ranges_of r) r.count s (l + 1) k long h q j c.args.from far i.5,
      record { suits = e.ensures.suits; mirrored = e.ensures.mirrored_2 },
    )

pub returns : goal.returns
returns c =
    let i = c.loop-len.invariant in
    record {
      advances = record {
        solved = from_end (omega (arith, c.loop-len-test.false)) i.5;
        small = i.4;
        past = i.3;
      };
      beside = i.6;
    }
