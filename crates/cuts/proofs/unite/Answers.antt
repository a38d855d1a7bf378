use mathlib.Core.Path.{subst}
use Rattle.cuts.specs.declared.Pair.{Pair}
use Rattle.cuts.specs.Cuts.{words_of_of}
use Rattle.cuts.specs.Closure.{Adding}
use Rattle.cuts.proofs.ClosureLaws.{unites_next, unites_end}
use Rattle.cuts.proofs.unite.Goals as goal

-- src/lib.rt:253:13
pub words_of-u-requires : goal.words_of-u-requires
words_of-u-requires c = (c.in-Some.ensures.steps.0.small, c.requires.p_in_bounds)

-- src/lib.rt:254:26
pub has-requires : goal.has-requires
has-requires c = c.in-Some.ensures.steps.0.small

-- src/lib.rt:251:5
pub loop-b-preserved : goal.loop-b-preserved
loop-b-preserved c =
    let a = c.args in
    let l = c.loop-b in
    let m = c.in-Some.ensures.steps in
    let b = c.in-Some.b in
    let h = c.has in
    rw m.1 (
      λ A i. l.invariant.0 A ((m.0.others A).0 i).0,
      unites_next (words_of_of a.up.now a.p) a.inner l.b-iterator.rest b h.result l.t
          c.joined-t.result l.invariant.0 m.0 h.ensures
          (subst (λ (x : Pair). Adding l.t x h.result c.joined-t.result)
          c.words_of-u.ensures c.joined-t.ensures) l.invariant.1,
    )

pub returns : goal.returns
returns c = let a = c.args in let l = c.loop-b in
    unites_end (words_of_of a.up.now a.p) a.inner l.t l.b-iterator.rest
    c.in-None.ensures.steps.0 l.invariant.1
