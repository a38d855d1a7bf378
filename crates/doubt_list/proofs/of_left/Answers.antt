-- `doubt_list::of_left` meets its contract.
use mathlib.Core.Path.{refl}
use Rattle.sets.proofs.Says.{says_eqb, says_iff}
use Rattle.doubt_list.proofs.ReadRule.{rule}
use Rattle.doubt_list.proofs.Doubting.{one_left}
use borrow.Author.Rules.{rules}
use Rattle.doubt_list.proofs.of_left.Goals as goal

pub returns : goal.returns
returns c =
    let r = rule c.args.g c.args.p (search rules) c.requires.0.few c.requires.1 in
    says_iff (λ e. record { rule = _; stands = r; left = e })
    (λ x. one_left (record { rule = _; stands = r; left = refl }) x) (says_eqb _ _)
