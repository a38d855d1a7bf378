-- `doubt_list::empty_by` meets its contract.
use Rattle.sets.proofs.Says.{fails}
use Rattle.acyclic.proofs.Growth.{small_at}
use Rattle.doubt_list.proofs.ReadRule.{rule}
use Rattle.doubt_list.proofs.Doubting.{says_choice, choice_left}
use borrow.Author.Rules.{rules}
use Rattle.doubt_list.proofs.empty_by.Goals as goal

pub ready-requires : goal.ready-requires
ready-requires c = (small_at c.requires.0 _
    (rule c.args.g c.args.p (search rules) c.requires.0.few c.requires.2)).clause

pub returns-then-rule-a : goal.returns-then-rule-a
returns-then-rule-a c =
    rw (← c.if-rule-a.true) (says_choice c.requires.1 _
    (rule c.args.g c.args.p (search rules) c.requires.0.few c.requires.2) c.ready.ensures)

pub returns : goal.returns
returns c =
    fails (λ x. c.if-rule-a.false (choice_left c.requires.1 _
    (rule c.args.g c.args.p (search rules) c.requires.0.few c.requires.2) x))
