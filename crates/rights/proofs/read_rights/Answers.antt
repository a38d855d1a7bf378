-- `read_rights` meets its contract: the first line is tried as the definition tries it.
use mathlib.Core.Path.{sym, subst}
use mathlib.Core.List.{List}
use native.Mathlib.Omega.{arith}
use Rattle.sheets.specs.Items.{Reading, refused}
use Rattle.sheets.proofs.Names.{behind_some, behind_none}
use Rattle.rights.specs.declared.Right.{Right}
use Rattle.rights.specs.RightSheets.{right_names, items_of}
use Rattle.rights.specs.Answers.{RightsGiven}
use Rattle.rights.proofs.read_rights.Goals as goal

pub rights_from-requires : goal.rights_from-requires
rights_from-requires c = (omega (arith, c.in-Some.ensures.1), c.in-Some.ensures.0)

pub returns-in-Some : goal.returns-in-Some
returns-in-Some c =
    subst (λ (x : Reading (List Right)). RightsGiven x c.args.user c.rights_from.result)
    (behind_some (refused 50 1) right_names items_of c.args.s.now c.in-Some.ensures)
    c.rights_from.ensures

pub returns-in-None : goal.returns-in-None
returns-in-None c =
    record {
      is =
          sym (behind_none (refused 50 1) right_names items_of c.args.s.now c.in-None.ensures);
    }
