-- `show` meets its contract: the rule sheet, the token sheet, the rights sheet, then the trees.
use mathlib.Core.Path.{refl}
use Rattle.sheets.proofs.Exits.{handed_on}
use Rattle.answering.proofs.Readings.{refused_rules, refused_tokens, both_accepted}
use Rattle.call_rights.specs.Show.{refusing, barring, reading}
use Rattle.call_rights.proofs.Showing.{by_sees}
use Rattle.call_rights.proofs.show.Goals as goal

pub shown-requires : goal.shown-requires
shown-requires c = record {
  formed = c.in_ok-book.ensures.formed;
  positioned = c.in_ok-s.ensures.positioned;
}

pub returns-in_err-book : goal.returns-in_err-book
returns-in_err-book c =
    refusing (refused_rules c.args.tokens.now c.in_err-book.ensures)
    (handed_on _ c.from_residual.ensures.1) refl refl refl

pub returns-in_err-s : goal.returns-in_err-s
returns-in_err-s c =
    refusing (refused_tokens c.args.tokens.now c.in_ok-book.ensures c.in_err-s.ensures)
    (handed_on _ c.from_residual-in_err-s.ensures.1) refl refl refl

pub returns-in_err-granted : goal.returns-in_err-granted
returns-in_err-granted c =
    barring (both_accepted c.args.tokens.now c.in_ok-book.ensures c.in_ok-s.ensures)
    c.in_err-granted.ensures (handed_on _ c.from_residual-in_err-granted.ensures.1) refl refl refl

pub returns : goal.returns
returns c =
    let x = c.in_ok-granted.ensures in
    reading (both_accepted c.args.tokens.now c.in_ok-book.ensures c.in_ok-s.ensures) x.is
    (by_sees x.held c.shown.ensures)
