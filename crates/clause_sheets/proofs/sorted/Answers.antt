use mathlib.Core.Path.{sym, ◌∙◌}
use native.Mathlib.Omega.{arith}
use Rattle.clause_sheets.proofs.Takes.{taking_miss, taking_full, taking_hit}
use Rattle.clause_sheets.proofs.sorted.Goals as goal
use Rattle.clause_sheets.proofs.sorted.Goals.{then-left_of-left+then-count-lt128}
use Rattle.clause_sheets.proofs.sorted.Goals.{then-left_of-left+else-count-lt128, else-left_of-left}

pub loop-i-preserved : goal.loop-i-preserved
loop-i-preserved c =
    let T = c.loop-i.invariant in
    let l = c.loop-left-test.true in
    let h = c.loop-i-test.true in
    let k = c.requires.1 in
    elim c.if-left_of-left.branch [
      | then-left_of-left+then-count-lt128 w ↦ rw (w.rules-is, w.count-is)
          (taking_hit T l h k _ (sym c.left_of.ensures ∙ w.if-left_of-left.true)
          w.if-count-lt128.true w.rule_of.ensures)
      | then-left_of-left+else-count-lt128 w ↦ rw (w.rules-is, w.count-is)
          (taking_full T l h k (sym c.left_of.ensures ∙ w.if-left_of-left.true)
          (omega (arith, w.if-count-lt128.false)))
      | else-left_of-left w ↦ rw (w.rules-is, w.count-is)
          (taking_miss T l h k (λ y. w.if-left_of-left.false (c.left_of.ensures ∙ y)))
    ]
