-- `read_clauses` meets its contract.
use mathlib.Core.Path.{sym, subst}
use Rattle.clause_sheets.specs.ClauseSheets.{clause_names, clauses_from}
use Rattle.sheets.proofs.Names.{behind_some, behind_none}
use Rattle.sheets.specs.Promises.{RulesRead}
use Rattle.sheets.specs.Items.{Reading, refused}
use Rattle.grammar.specs.Trees.{Rules}
use Rattle.clause_sheets.proofs.read_clauses.Goals as goal

pub returns-in-Some : goal.returns-in-Some
returns-in-Some c =
    subst (λ (x : Reading Rules). RulesRead c.clauses_from.result x)
    (behind_some (refused 1 1) clause_names clauses_from c.args.s.now c.in-Some.ensures)
    c.clauses_from.ensures

pub returns-in-None : goal.returns-in-None
returns-in-None c = record {
  is = sym (behind_none (refused 1 1) clause_names clauses_from c.args.s.now c.in-None.ensures);
}
