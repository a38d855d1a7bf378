use mathlib.Core.Path.{◌≡◌, sym, ◌∙◌, subst}
use Prim.Native.Nat.{ℕ, ◌<◌}
use native.Mathlib.Omega.{arith}
use Rattle.grammar.specs.Content.{rules_of}
use Rattle.row_counts.specs.Nulls.{NullsTried}
use Rattle.row_counts.proofs.NullLaws.{passed_none, passed_more}
use Rattle.row_counts.proofs.null_pass.Goals as goal

pub loop-a-init : goal.loop-a-init
loop-a-init c = (
  omega arith,
  passed_none _ c.requires.sound
      (λ B t d f k. absurd (omega (arith, d))),
)

pub null_try-found-requires : goal.null_try-found-requires
null_try-found-requires c = record {
  ready = (c.requires.ready, c.loop-a-test.true);
  has_firsts = c.requires.has_firsts;
  sound = c.loop-a.invariant.1.sound;
}

pub loop-a-preserved : goal.loop-a-preserved
loop-a-preserved c =
    let loop = c.loop-a in
    let loop-test = c.loop-a-test in
    let null-try = c.null_try-found in (
      omega (arith, loop-test.true),
      passed_more _ loop.invariant.1 null-try.ensures
          c.either-more.ensures,
    )

pub shape_of-z : goal.shape_of-z
shape_of-z c = c.loop-a.invariant.1.sound.long ∙ sym
    c.requires.sound.long

pub returns : goal.returns
returns c =
    let args = c.args in
    let e : c.loop-a.a ≡ 64 = omega (arith, c.loop-a.invariant.0, c.loop-a-test.false) in
    subst (λ (x : ℕ). NullsTried (rules_of args.g) (λ B. B < x) args.z.now c.loop-a.z
    c.loop-a.more) e c.loop-a.invariant.1
