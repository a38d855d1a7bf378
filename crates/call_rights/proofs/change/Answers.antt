-- `change` meets its contract: the rule sheet, then the rights sheet, then the change.
use mathlib.Core.Path.{refl}
use Rattle.sheets.proofs.Exits.{handed_on}
use Rattle.call_rights.specs.Change.{refusing, barring, reading}
use Rattle.call_rights.proofs.Showing.{by_changes}
use Rattle.call_rights.proofs.change.Goals as goal

pub changed_to-requires : goal.changed_to-requires
changed_to-requires c = let b = c.in_ok-book.ensures in
    record { formed = b.formed; rules_value = b.is }

pub returns-in_err-book : goal.returns-in_err-book
returns-in_err-book c =
    refusing c.in_err-book.ensures (handed_on _ c.from_residual.ensures.1) refl

pub returns-in_err-granted : goal.returns-in_err-granted
returns-in_err-granted c =
    barring c.in_ok-book.ensures.is c.in_err-granted.ensures
    (handed_on _ c.from_residual-in_err-granted.ensures.1) refl

pub returns : goal.returns
returns c =
    let x = c.in_ok-granted.ensures in
    reading c.in_ok-book.ensures.is x.is (by_changes x.held c.changed_to.ensures)
