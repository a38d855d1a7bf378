use mathlib.Core.Path.{refl}
use Rattle.cuts.specs.Cuts.{mask_of}
use Rattle.grammar.specs.declared.Verdict.TheVariants as Verdict
use Rattle.cuts.proofs.HitLaws.{tells_as, no_meeting}
use Rattle.cuts.proofs.binary.Goals as goal

pub returns-then-row-col-eq0 : goal.returns-then-row-col-eq0
returns-then-row-col-eq0 c =
    let a = c.args in
    tells_as Verdict.None c.words_of-row.ensures c.words_of-col.ensures refl
    (no_meeting c.words_of-row.result c.words_of-col.result (mask_of a.w a.m)
    c.if-row-col-eq0.true)

pub returns : goal.returns
returns c =
    tells_as c.stands.result c.words_of-row.ensures c.words_of-col.ensures c.mask.ensures
    c.stands.ensures
