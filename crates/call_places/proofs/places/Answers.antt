-- `places` meets its contract: the readers' refusals, else the places of what was read.
use mathlib.Core.Path.{refl}
use Rattle.sheets.proofs.Exits.{handed_on}
use Rattle.answering.proofs.Readings.{refused_rules, refused_tokens, both_accepted}
use Rattle.call_places.specs.Places.{refusing, reading}
use Rattle.call_places.proofs.places.Goals as goal

pub listed-requires : goal.listed-requires
listed-requires c = record {
  formed = c.in_ok-book.ensures.formed;
  positioned = c.in_ok-s.ensures.positioned;
}

pub returns-in_err-book : goal.returns-in_err-book
returns-in_err-book c =
    refusing (refused_rules c.args.tokens.now c.in_err-book.ensures)
    (handed_on _ c.from_residual.ensures.1) refl refl

pub returns-in_err-s : goal.returns-in_err-s
returns-in_err-s c =
    refusing (refused_tokens c.args.tokens.now c.in_ok-book.ensures c.in_err-s.ensures)
    (handed_on _ c.from_residual-in_err-s.ensures.1) refl refl

pub returns : goal.returns
returns c =
    reading (both_accepted c.args.tokens.now c.in_ok-book.ensures c.in_ok-s.ensures)
    c.listed.ensures
