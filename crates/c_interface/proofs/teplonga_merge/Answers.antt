-- `teplonga_merge` meets its contract: a case of the definition for each way out.
use mathlib.Core.Path.{refl}
use Rattle.c_interface.specs.Merge.{one_refuses, two_refuses, two_leads, one_stays}
use Rattle.c_interface.proofs.teplonga_merge.Goals as goal

pub returns-then-one-ge100 : goal.returns-then-one-ge100
returns-then-one-ge100 c = one_refuses c.if-one-ge100.true refl

pub returns-then-two-ge100 : goal.returns-then-two-ge100
returns-then-two-ge100 c = two_refuses c.if-one-ge100.false c.if-two-ge100.true refl

pub returns-then-leads : goal.returns-then-leads
returns-then-leads c = two_leads c.if-one-ge100.false c.if-two-ge100.false
    (c.leads.ensures.is c.if-leads.true) refl

pub returns : goal.returns
returns c = one_stays c.if-one-ge100.false c.if-two-ge100.false
    (c.leads.ensures.isnt c.if-leads.false) refl
