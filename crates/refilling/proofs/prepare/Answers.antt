use mathlib.Core.Path.{sym, subst}
use native.Mathlib.Omega.{arith}
use Rattle.grammar.specs.Content.{rules_of}
use Rattle.refilling.specs.Turning.{SetRules}
use Rattle.refilling.proofs.KeptLaws.{made}
use Rattle.refilling.proofs.prepare.Goals as goal

pub returns : goal.returns
returns c =
    let g = rules_of c.args.g in
    made c.args.kept.now c.chains.new.table c.requires.in_bounds
    (omega (arith, c.requires.formed.whole, c.requires.formed.few))
    c.empty_pair-e.ensures
    c.chains.ensures
    c.binary_rules-b.ensures
    c.write.ensures
    (subst (SetRules g c.write.new.words
    c.set_rules.new.kept) (sym c.requires.formed.whole)
    c.set_rules.ensures)
