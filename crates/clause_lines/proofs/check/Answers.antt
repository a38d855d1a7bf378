-- `check` meets its contract.
use mathlib.Core.Path.{sym, ap, subst, ◌∙◌}
use Rattle.clause_lines.specs.declared.Walk.{Walk}
use native.Mathlib.Omega.{arith}
use Rattle.clause_lines.specs.Loops.{Walks}
use Rattle.clause_lines.proofs.Walking.{walks_begin, walks_on, walk_further, walks_off}
use Rattle.clause_lines.proofs.Walking.{walks_last}
use Rattle.clause_lines.proofs.check.Goals as goal

pub loop-x-init : goal.loop-x-init
loop-x-init c = walks_begin _

pub lexeme_at-x-requires : goal.lexeme_at-x-requires
lexeme_at-x-requires c = c.loop-x.invariant.within

pub returns-then-is_end : goal.returns-then-is_end
returns-then-is_end c =
    c.finish.ensures ∙ walks_last _ _ _ c.loop-x.invariant
    c.lexeme_at-x.ensures
    (sym c.is_end.ensures ∙ c.if-is_end.true)

pub step-w-requires : goal.step-w-requires
step-w-requires c = record {
  deep_bound = omega (arith, c.loop-x.invariant.few, c.loop-x.invariant.within);
  l_value = sym c.fits.ensures ∙ c.if-not-fits.false;
}

pub loop-x-smaller : goal.loop-x-smaller
loop-x-smaller c =
    let u = walks_on _ _ _ c.loop-x.invariant
    c.lexeme_at-x.ensures
    (sym c.fits.ensures ∙ c.if-not-fits.false) in
    let z = walk_further _ c.loop-x.w _
    c.lexeme_at-x.ensures
    (sym c.fits.ensures ∙ c.if-not-fits.false) in
    let y = ap (λ (v : Walk). v.at) c.step-w.ensures in
    omega (arith, u.within)

pub loop-x-preserved : goal.loop-x-preserved
loop-x-preserved c =
    subst (λ (v : Walk). Walks c.args.s.now v) (sym c.step-w.ensures)
    (walks_on _ _ _ c.loop-x.invariant
    c.lexeme_at-x.ensures
    (sym c.fits.ensures ∙ c.if-not-fits.false))

pub returns-then-not-fits : goal.returns-then-not-fits
returns-then-not-fits c =
    walks_off _ _ _ c.loop-x.invariant
    c.lexeme_at-x.ensures
    (sym c.is_end.ensures ∙ c.if-is_end.false)
    (sym c.fits.ensures ∙ c.if-not-fits.true)
