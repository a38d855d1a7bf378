-- `call_shares::share` meets its contract: the reader's refusals, else the share of what was read.
use mathlib.Core.Path.{refl}
use Rattle.call_shares.specs.Share.{refusing, reading}
use Rattle.sheets.proofs.Exits.{handed_on}
use Rattle.call_shares.proofs.share.Goals as goal

pub judged-requires : goal.judged-requires
judged-requires c = c.in_ok-book.ensures.formed

pub returns-in_err-book : goal.returns-in_err-book
returns-in_err-book c =
    refusing c.in_err-book.ensures (handed_on _ c.from_residual.ensures.1) refl

pub returns : goal.returns
returns c = reading c.in_ok-book.ensures.is c.judged.ensures
