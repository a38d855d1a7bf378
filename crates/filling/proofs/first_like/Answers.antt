use mathlib.Core.Path.{refl, sym, ap, ◌∙◌}
use native.Mathlib.Omega.{arith}
use Rattle.grammar.specs.declared.Token.{Token}
use Rattle.marks.proofs.DraftLaws.{drafted_at}
use Rattle.filling.proofs.first_like.Goals as goal

pub bounds-d-i : goal.bounds-d-i
bounds-d-i c = omega (arith, c.requires.0, c.requires.1)

pub bounds-d-j : goal.bounds-d-j
bounds-d-j c = omega (
  arith,
  c.requires.0,
  c.requires.1,
  c.loop-j-test.true,
)

pub returns-then-t-a : goal.returns-then-t-a
returns-then-t-a c =
    let d = c.args.d in
    let h = c.loop-j-test.true in
    let j = c.loop-j.j in (
      omega (arith, h),
      ap (λ (t : Token). t.terminal)
          (drafted_at d j (omega (arith, h, c.requires.0))) ∙ c.if-t-a.true
          ∙ sym (ap (λ (t : Token). t.terminal) (drafted_at d c.args.i c.requires.0)),
    )

pub loop-j-smaller : goal.loop-j-smaller
loop-j-smaller c = omega (arith, c.loop-j-test.true)

pub loop-j-preserved : goal.loop-j-preserved
loop-j-preserved c = omega (arith, c.loop-j-test.true)

pub returns : goal.returns
returns c = (omega arith, refl)
