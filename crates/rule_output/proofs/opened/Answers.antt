-- `opened` meets its contract.
use mathlib.Core.Path.{sym, ◌∙◌}
use Rattle.rule_output.proofs.Adding.{adds_nothing, adds_also}
use Rattle.rule_output.proofs.Leaves.{heads_two, counts_by}
use Rattle.rule_output.specs.Emitting.{held}
use Rattle.rule_output.proofs.opened.Goals as goal

pub returns-then-k-eq0 : goal.returns-then-k-eq0
returns-then-k-eq0 c w =
    counts_by _ _ 0 _ (sym (sym c.heads-k.ensures ∙ c.if-k-eq0.true))
    (adds_nothing (held w c.args.out))

pub returns-then-k-eq1 : goal.returns-then-k-eq1
returns-then-k-eq1 c w =
    counts_by _ _ 1 _ (sym (sym c.heads-k.ensures ∙ c.if-k-eq1.true)) (c.fresh-o.ensures w)

pub returns : goal.returns
returns c w =
    let h = c.heads-k.ensures in
    let i = c.if-k-eq0.false in
    let j = c.if-k-eq1.false in
    counts_by _ _ 2 _ (sym (heads_two c.args.l
    (λ z. i (h ∙ z)) (λ z. j (h ∙ z))))
    (adds_also (c.fresh-o.ensures w) (c.fresh.ensures w))
