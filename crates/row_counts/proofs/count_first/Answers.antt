-- `count_first` meets its contract: the table over the empty word, the walk over the others.
use mathlib.Core.Path.{◌≡◌, subst}
use Prim.Native.Nat.{ℕ}
use Rattle.grammar.specs.Choices.{FirstTree}
use Rattle.grammar.specs.Content.{rules_of}
use Rattle.grammar.specs.SpanSheet.{part}
use Rattle.grammar.specs.Sentences.{spelled}
use Rattle.row_counts.proofs.count_first.Goals as goal

pub returns-then-l-eq0 : goal.returns-then-l-eq0
returns-then-l-eq0 c =
    let if1-here = c.if-l-eq0 in
    let if1 = if1-here in
    let a = c.args in
    λ t f. let e : a.l ≡ 0 = if1.true in
    c.requires.nulls.count a.a t c.requires.ready.1
    (subst (λ (n : ℕ). FirstTree (rules_of a.g) a.a (part (spelled a.s) a.i n) t) e f)
