-- The readers' refusals, else the answer on what was read.
use mathlib.Core.Path.{refl}
use Rattle.sheets.proofs.Exits.{handed_on}
use Rattle.call_columns.specs.Columns.{bad_rules, bad_ranges, reading}
use Rattle.call_columns.proofs.columns.Goals as goal

pub answered-requires : goal.answered-requires
answered-requires c =
    record { formed = c.in_ok-book.ensures.formed; spread = c.in_ok-r.ensures.spread }

pub returns-in_err-book : goal.returns-in_err-book
returns-in_err-book c =
    bad_rules c.in_err-book.ensures (handed_on _ c.from_residual.ensures.1) refl

pub returns-in_err-r : goal.returns-in_err-r
returns-in_err-r c =
    bad_ranges c.in_ok-book.ensures.is c.in_err-r.ensures
    (handed_on _ c.from_residual-in_err-r.ensures.1) refl

pub returns : goal.returns
returns c = reading c.in_ok-book.ensures.is c.in_ok-r.ensures.is c.answered.ensures
