-- `expand` meets its contract: the reader's refusals, else the sheet of what was read.
use mathlib.Core.Path.{refl}
use Rattle.sheets.proofs.Exits.{handed_on}
use Rattle.call_clauses.specs.Expand.{refusing, giving}
use Rattle.call_clauses.proofs.expand.Goals as goal

pub expanded-requires : goal.expanded-requires
expanded-requires c = c.in_ok-book.ensures.formed

pub returns-in_err-book : goal.returns-in_err-book
returns-in_err-book c =
    refusing c.in_err-book.ensures (handed_on _ c.from_residual.ensures.1) refl

pub returns : goal.returns
returns c = giving c.in_ok-book.ensures.is c.expanded.ensures
