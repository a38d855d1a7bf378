-- `verdict_read` meets its contract: the readers' refusals, else the verdict on what was read.
use mathlib.Core.Path.{refl}
use Rattle.answering.specs.Verdict.{refusing, reading}
use Rattle.sheets.proofs.Exits.{handed_on}
use Rattle.sheets.specs.Promises.{RulesGiven}
use Rattle.sheets.proofs.Readings.{read_of, rules_not}
use Rattle.answering.proofs.Readings.{refused_rules, refused_tokens, both_accepted}
use Rattle.verdict_answers.proofs.verdict_read.Goals as goal

pub judged-requires : goal.judged-requires
judged-requires c = record {
  formed = (read_of RulesGiven c.requires c.in_ok-book.was).formed;
  positioned = c.in_ok-s.ensures.positioned;
}

pub returns-in_err-book : goal.returns-in_err-book
returns-in_err-book c =
    refusing (refused_rules c.args.tokens.now (rules_not c.requires c.in_err-book.was))
    (handed_on _ c.from_residual.ensures.1) refl

pub returns-in_err-s : goal.returns-in_err-s
returns-in_err-s c =
    let b = read_of RulesGiven c.requires c.in_ok-book.was in
    refusing (refused_tokens c.args.tokens.now b c.in_err-s.ensures)
    (handed_on _ c.from_residual-in_err-s.ensures.1) refl

pub returns : goal.returns
returns c =
    let b = read_of RulesGiven c.requires c.in_ok-book.was in
    reading (both_accepted c.args.tokens.now b c.in_ok-s.ensures) c.judged.ensures
