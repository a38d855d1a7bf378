-- The word of the cuts that all three words have.
use Rattle.cuts.proofs.HitLaws.{no_hit, two_hits, double_hit, one_hit}
use Rattle.cuts.proofs.stands.Goals as goal

pub returns-then-h-eq0 : goal.returns-then-h-eq0
returns-then-h-eq0 c = let a = c.args in
    no_hit a.row a.col a.at c.if-h-eq0.true

pub returns-then-h-ne0 : goal.returns-then-h-ne0
returns-then-h-ne0 c = let a = c.args in
    two_hits a.row a.col a.at c.if-h-eq0.false c.if-h-ne0.true

pub returns-then-h-row-ne0 : goal.returns-then-h-row-ne0
returns-then-h-row-ne0 c = let a = c.args in
    double_hit a.row a.col a.at c.if-h-row-ne0.true

pub returns : goal.returns
returns c =
    let a = c.args in
    one_hit a.row a.col a.at c.if-h-eq0.false c.if-h-ne0.false c.if-h-row-ne0.false
