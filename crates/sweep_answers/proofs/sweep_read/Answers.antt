-- `sweep_read` meets its contract: the reader's refusals, else the sweep over what was read.
use mathlib.Core.Path.{refl}
use Rattle.sweep_answers.specs.Sweep.{refusing, reading}
use Rattle.sheets.proofs.Exits.{handed_on}
use Rattle.sheets.specs.Promises.{RulesGiven}
use Rattle.sheets.proofs.Readings.{read_of, rules_not}
use Rattle.sweep_answers.proofs.sweep_read.Goals as goal

pub judged-requires : goal.judged-requires
judged-requires c = let b = read_of RulesGiven c.requires c.in_ok-book.was in
    record { formed = b.formed; exact = b.exact }

pub returns-in_err-book : goal.returns-in_err-book
returns-in_err-book c =
    refusing (rules_not c.requires c.in_err-book.was) (handed_on _ c.from_residual.ensures.1) refl

pub returns : goal.returns
returns c = reading (read_of RulesGiven c.requires c.in_ok-book.was).is c.judged.ensures
