-- `judged` meets its contract: 21 by the words' number, else the chart's verdict.
use mathlib.Core.Path.{refl}
use Rattle.sheets.proofs.Exits.{no_line}
use Rattle.answering.specs.Verdict.{judging}
use Rattle.answering.proofs.Judging.{filled_by}
use Rattle.verdict_answers.proofs.Judging.{too_few}
use Rattle.verdict_answers.proofs.judged.Goals as goal

pub returns-then-words-size : goal.returns-then-words-size
returns-then-words-size c =
    too_few _ _ _ _ c.requires.positioned.whole (rw c.size.ensures at c.if-words-size.true)
    (no_line c.into.ensures)

pub returns : goal.returns
returns c =
    let j = c.judge.ensures in
    judging j.verdict refl (filled_by c.requires.positioned.whole j)
