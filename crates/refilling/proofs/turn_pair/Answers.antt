use borrow.Author.Rules.{rules}
use borrow.Author.Rules.{rules}
use Rattle.refilling.proofs.TurnLaws.{pair_turned}
use Rattle.refilling.proofs.turn_pair.Goals as goal

pub returns : goal.returns
returns c = pair_turned c.args.old c.args.new (search rules) (search rules) (search rules)
    (search rules) c.requires.has_bits c.turn_bits.ensures c.turn_bits-2.ensures
