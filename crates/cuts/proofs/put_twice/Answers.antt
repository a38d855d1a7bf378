use borrow.Author.Rules.{rules}
use Prim.Native.Nat.{◌+◌, ◌*◌, ◌<◌}
use native.Mathlib.Omega.{arith}
use mathlib.Core.Path.{◌∙◌}
use lib.ListN.{length, set, length-set}
use Rattle.cuts.proofs.PutLaws.{twice_more, twice_done}
use Rattle.cuts.proofs.put_twice.Goals as goal

pub loop-a-preserved : goal.loop-a-preserved
loop-a-preserved c =
    let l = c.loop-a in
    let m = c.in-Some.ensures.steps in
    let at = c.args.p + 2 * c.in-Some.a in
    let v = c.with.result in
    let inside : at + 1 < length l.words =
    omega (arith, m.0.small, l.invariant.1, c.requires.1) in
    rw m.1 (
      twice_more v m.0 inside c.with.ensures l.invariant.0 c.with-in-loop-a.result
          c.with-in-loop-a.ensures,
      length-set (set l.words at v) (at + 1) c.with-in-loop-a.result ∙ length-set l.words at v
          ∙ l.invariant.1,
    )

pub shape_of-words : goal.shape_of-words
shape_of-words c = c.loop-a.invariant.1

pub returns : goal.returns
returns c = twice_done (search rules) c.in-None.ensures.steps.0 c.loop-a.invariant.0
