-- `sheets::read_rules` meets its contract: the first line is tried as the definition tries it.
use mathlib.Core.Path.{sym, subst}
use Rattle.sheets.specs.Items.{Reading, refused}
use Rattle.sheets.specs.RuleSheets.{rule_names, rules_from}
use Rattle.sheets.specs.Promises.{RulesRead}
use Rattle.sheets.proofs.Names.{behind_some, behind_none}
use Rattle.grammar.specs.Trees.{Rules}
use Rattle.sheets.proofs.read_rules.Goals as goal

pub returns-in-Some : goal.returns-in-Some
returns-in-Some c =
    subst (λ (x : Reading Rules). RulesRead c.rules_from.result x)
    (behind_some (refused 1 1) rule_names rules_from c.args.s.now c.in-Some.ensures)
    c.rules_from.ensures

pub returns-in-None : goal.returns-in-None
returns-in-None c =
    record {
      is =
          sym (behind_none (refused 1 1) rule_names rules_from c.args.s.now c.in-None.ensures);
    }
