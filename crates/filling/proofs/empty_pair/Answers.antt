-- The tries over the sheet of no token.
use mathlib.Core.Path.{subst}
use Rattle.grammar.specs.Content.{rules_of}
use lib.ListN.{length}
use Rattle.marks.specs.declared.SpanMarks.{SpanMarks}
use Rattle.joins.specs.Passes.{Leaves, Saturated}
use Rattle.links.proofs.ThinLaws.{formed_ruled}
use Rattle.chart.proofs.SingleLaws.{empty_found}
use Rattle.filling.proofs.empty_pair.Goals as goal

pub leaves-b-requires : goal.leaves-b-requires
leaves-b-requires c = formed_ruled c.requires

pub saturated-t-requires : goal.saturated-t-requires
saturated-t-requires c = formed_ruled c.requires

pub returns : goal.returns
returns c =
    let m = c.first_marks-k.ensures.same in
    let g = rules_of c.args.g in
    empty_found c.requires.distinct (subst
    (λ (k : SpanMarks). Leaves k 0 g (length g) c.leaves-b.result) m c.leaves-b.ensures)
    (subst (λ (k : SpanMarks). Saturated 0 0 k 0 g c.leaves-b.result c.saturated-t.result) m
    c.saturated-t.ensures)
