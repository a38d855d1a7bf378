-- `count_second` meets its contract: the way down the second tree, if there is one.
use mathlib.Core.Path.{refl, ◌∙◌, sym}
use native.Mathlib.Omega.{arith}
use Rattle.sets.proofs.Says.{true_not_false}
use Rattle.grammar.specs.Rows.{row_count}
use Rattle.row_counts.proofs.CappedLaws.{capped_le}
use Rattle.row_counts.proofs.count_second.Goals as goal

pub walk_second-requires : goal.walk_second-requires
walk_second-requires c = record {
  ready = c.requires.ready;
  nulls = c.requires.nulls;
  wanted = rw c.if-two.true at c.requires.wanted;
}

pub returns-then-two : goal.returns-then-two
returns-then-two c =
    let u = rw c.if-two.true at c.requires.wanted in
    let e = c.walk_second.ensures in
    record {
      small = omega (arith, e u.tree u.goal, capped_le (row_count u.tree));
      counted = λ _. e;
      lacking = λ f. absurd (true_not_false (sym c.if-two.true ∙ f));
    }

pub returns : goal.returns
returns c =
    record {
      small = omega arith;
      counted = λ e. absurd (true_not_false (sym e ∙ c.if-two.false));
      lacking = λ _. refl;
    }
