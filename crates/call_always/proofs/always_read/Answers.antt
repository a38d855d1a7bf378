-- `always_read` meets its contract: the reader's refusal, else the answer on what was read.
use mathlib.Core.Path.{refl}
use Rattle.sheets.specs.Promises.{RulesGiven}
use Rattle.sheets.proofs.Exits.{handed_on}
use Rattle.sheets.proofs.Readings.{read_of, rules_not}
use Rattle.call_always.specs.Always.{refusing, reading}
use Rattle.call_always.proofs.always_read.Goals as goal

pub answered-requires : goal.answered-requires
answered-requires c = (read_of RulesGiven c.requires c.in_ok-book.was).formed

pub returns-in_err-book : goal.returns-in_err-book
returns-in_err-book c =
    refusing (rules_not c.requires c.in_err-book.was) (handed_on _ c.from_residual.ensures.1) refl
    refl

pub returns : goal.returns
returns c = reading (read_of RulesGiven c.requires c.in_ok-book.was).is c.answered.ensures
