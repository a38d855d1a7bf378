-- `doubt_list::put_if` meets its contract.
use mathlib.Core.Path.{refl, sym, ◌∙◌}
use Rattle.sets.proofs.Says.{true_not_false}
use Rattle.doubt_list.proofs.put_if.Goals as goal

pub returns-then-not-yes : goal.returns-then-not-yes
returns-then-not-yes c =
    record {
      put = λ e. absurd (true_not_false (sym e ∙ c.if-not-yes.true));
      same = λ e. (refl, refl);
    }

pub returns : goal.returns
returns c =
    record {
      put = λ e. (c.put.ensures, c.put.auto.out);
      same =
          λ e. absurd (true_not_false (sym c.if-not-yes.false
          ∙ e));
    }
