use mathlib.Core.Path.{◌≡◌}
use native.Mathlib.Omega.{arith}
use borrow.Author.Rules.{rules}
use Rattle.sets.proofs.Says.{true_not_false}
use Rattle.pair_entries.proofs.EntryLaws.{none_yet, none_more, none_cut₁, none_cut₂}
use Rattle.pair_entries.proofs.some_useful.Goals as goal

pub returns-then-f : goal.returns-then-f
returns-then-f c = none_cut₁ _ (rw c.frame_at-f.ensures at c.if-f.true)

pub returns-then-f-2 : goal.returns-then-f-2
returns-then-f-2 c =
    none_cut₂ _ (rw c.frame_at-f.ensures at c.if-f-2.true)

pub loop-s-init : goal.loop-s-init
loop-s-init c = (none_yet _, omega arith)

pub returns-then-useful_kinds-ne0 : goal.returns-then-useful_kinds-ne0
returns-then-useful_kinds-ne0 c = record { absent = λ e. absurd (true_not_false e) }

pub loop-s-preserved : goal.loop-s-preserved
loop-s-preserved c = (
  none_more _ c.loop-s.invariant.0
      c.useful_kinds.ensures c.if-useful_kinds-ne0.false,
  search rules,
)

pub returns : goal.returns
returns c =
    let e : c.loop-s.s ≡ 36 = omega arith in
    rw e at c.loop-s.invariant.0
