use mathlib.Core.Path.{sym, subst, subst₂}
use Prim.Native.Nat.{ℕ}
use native.Mathlib.Omega.{arith}
use lib.ListN.{length}
use Rattle.grammar.specs.Content.{rules_of}
use Rattle.marks.specs.declared.SpanMarks.{SpanMarks}
use Rattle.joins.specs.Passes.{Leaves, Saturated}
use Rattle.links.specs.LinkRules.{Thinned}
use Rattle.links.proofs.ThinLaws.{formed_ruled, saturated_all}
use Rattle.chart.proofs.SingleLaws.{leaf_found}
use Rattle.filling.proofs.token_pair.Goals as goal

-- src/lib.rt:64:9
pub leaves-b-requires : goal.leaves-b-requires
leaves-b-requires c = formed_ruled c.requires.formed

-- src/lib.rt:66:9
pub saturated-t-requires : goal.saturated-t-requires
saturated-t-requires c = c.link_rules-w.ensures.ruled

-- src/lib.rt:58:1
pub returns : goal.returns
returns c =
    let v = c.link_rules-w.ensures in
    let m = c.first_marks-k.ensures.same in
    let a = c.args in
    let g = rules_of a.g in
    let w = rules_of c.link_rules-w.result in
    let t = subst₂ (λ (x y : ℕ). Thinned a.e.one g w x y) (sym c.requires.formed.whole)
    (sym v.ruled.whole) v.thinned in
    let s = saturated_all a.e.one a.e.two c.first_marks-k.result 1 (omega arith) t
    c.saturated-t.ensures in
    leaf_found c.requires.formed.distinct c.requires.empty_pair
    (subst (λ (k : SpanMarks). Leaves k 1 g (length g) c.leaves-b.result) m
    c.leaves-b.ensures) (subst (λ (k : SpanMarks). Saturated a.e.one a.e.two k 1 g
    c.leaves-b.result c.saturated-t.result) m s)
