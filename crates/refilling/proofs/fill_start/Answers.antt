use native.Mathlib.Omega.{arith}
use mathlib.Core.Path.{refl, sym, ap, ◌∙◌}
use Prim.Native.Nat.{◌+◌, ◌≤◌, ◌<◌}
use Rattle.grammar.specs.declared.Token.{Token}
use Rattle.grammar.specs.Content.{rules_of}
use Rattle.marks.specs.Drafts.{half}
use Rattle.marks.proofs.DraftLaws.{drafted_at}
use Rattle.marks.proofs.Joining.{carried_all, next_carried}
use Rattle.spans.proofs.ChangeLaws.{past_same, past_then, kept_past}
use Rattle.chart.proofs.FillLaws.{given_same, given_then, given_kept}
use Rattle.chart.proofs.SheetLaws.{filled_next, filled_pass, filled_end, filled_ground, filled_on}
use Rattle.filling.proofs.ClosingLaws.{cut_joined}
use Rattle.refilling.proofs.fill_start.Goals as goal

pub loop-len-init : goal.loop-len-init
loop-len-init c =
    let a = c.args in
    let d = a.d in (
      omega arith,
      omega (arith, c.requires.whole.2),
      c.first_marks-k.ensures.carried (half d) a.start
          (ap (λ (t : Token). t.terminal)
          (sym (drafted_at d a.start (omega (arith, c.requires.whole.2)))))
          (ap (λ (t : Token). t.column)
          (sym (drafted_at d a.start (omega (arith, c.requires.whole.2))))),
      past_same _ _,
      given_same _ _,
      filled_next _ _ _ _ _ _ c.requires.filled,
      c.requires.formed.1,
      c.requires.mirrored,
      refl,
    )

pub loop-len-preserved-then-at-from : goal.loop-len-preserved-then-at-from
loop-len-preserved-then-at-from c = let l = c.loop-len.invariant in (
  omega arith,
  omega (arith, c.loop-len-test.true),
  next_carried c.args.d c.args.start _ _ _ l.0 (omega (arith, c.loop-len-test.true))
      c.with_next-k.ensures l.2,
  l.3,
  l.4,
  filled_pass _ _ _ _ _ _ _ (omega (arith, c.if-at-from.true)) l.5,
  l.6,
  l.7,
  l.8,
)

pub close-requires : goal.close-requires
close-requires c = let l = c.loop-len.invariant in record {
  n_bound = (
    omega (arith, c.requires.whole.1),
    record {
      few = c.requires.whole.0.few;
      fits = omega (arith, c.loop-len-test.true);
      enough = omega (arith, l.3.long, c.requires.count_in_bounds);
    },
    omega (arith, l.0),
  );
  formed = (c.requires.formed.0, l.6);
  mirrored = l.7;
}

pub loop-len-preserved : goal.loop-len-preserved
loop-len-preserved c =
    let a = c.args in
    let b = c.loop-len in
    let l = b.invariant in
    let g = rules_of a.g in
    let h = half a.d in
    let n = a.d.count in
    let len = b.len + 1 in
    let fit : a.start + len ≤ n = omega (arith, c.loop-len-test.true) in
    let long : 2 ≤ len = omega (arith, l.0) in
    let far : a.from < a.start + len =
    omega (arith, c.if-at-from.false) in
    let ws = c.close.new.words in
    let m = next_carried a.d a.start _ _ _ l.0 (omega (arith, c.loop-len-test.true))
    c.with_next-k.ensures l.2 in
    let j = cut_joined b.words ws g h n a.start len c.with_next-k.result
    c.requires.formed.0.distinct (omega (arith, c.requires.whole.0.long, c.requires.whole.0.inner))
    fit
    long (carried_all _ _ _ _ m)
    (filled_ground b.words g h n a.from a.start len fit l.5) c.close.ensures.cut_joins in (
      omega arith,
      fit,
      m,
      past_then l.3 (kept_past n a.start len fit j.kept),
      given_then l.4 (given_kept b.words ws n a.start len fit long j.kept),
      filled_on b.words ws g h n a.from a.start len long fit far l.5 j,
      c.close.ensures.suits,
      c.close.ensures.mirrored_2,
      c.close.auto.kept ∙ l.8,
    )

pub shape_of-words : goal.shape_of-words
shape_of-words c = c.loop-len.invariant.3.long

pub shape_of-kept : goal.shape_of-kept
shape_of-kept c = c.loop-len.invariant.8

pub returns : goal.returns
returns c = let l = c.loop-len.invariant in record {
  filled_from = record {
    filled = filled_end _ _ _ _ _ _ _ (omega (arith, c.loop-len-test.false)) l.5;
    given = l.4;
    past = l.3;
  };
  suits = l.6;
  mirrored_2 = l.7;
}
