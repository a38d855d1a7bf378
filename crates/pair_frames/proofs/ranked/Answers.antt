use mathlib.Core.Path.{sym, ◌∙◌}
use Rattle.pairs.specs.Settings.{start₁, cut₁, start₂, cut₂, at, stop₁, stop₂}
use Rattle.pair_frames.proofs.FrameLaws.{ranked_of}
use Rattle.sets.proofs.Says.{fails, says_iff, says_eqb}
use Rattle.pair_frames.proofs.ranked.Goals as goal

pub returns-then-points_before-f : goal.returns-then-points_before-f
returns-then-points_before-f c =
    fails (λ h. c.if-points_before-f.true (c.points_before.ensures ∙ h.rank (at start₁)))

pub returns-then-points_before-f-2 : goal.returns-then-points_before-f-2
returns-then-points_before-f-2 c =
    fails (λ h. c.if-points_before-f-2.true (c.points_before-2.ensures ∙ h.rank (at start₂)))

pub returns-then-points_before-f-3 : goal.returns-then-points_before-f-3
returns-then-points_before-f-3 c =
    fails (λ h. c.if-points_before-f-3.true (c.points_before-3.ensures ∙ h.rank (at cut₁)))

pub returns-then-points_before-f-4 : goal.returns-then-points_before-f-4
returns-then-points_before-f-4 c =
    fails (λ h. c.if-points_before-f-4.true (c.points_before-4.ensures ∙ h.rank (at cut₂)))

pub returns-then-points_before-f-5 : goal.returns-then-points_before-f-5
returns-then-points_before-f-5 c =
    fails (λ h. c.if-points_before-f-5.true (c.points_before-5.ensures ∙ h.rank stop₁))

pub returns : goal.returns
returns c =
    says_iff
    (λ e.
    ranked_of _
    (sym c.points_before.ensures
    ∙ c.if-points_before-f.false)
    (sym c.points_before-2.ensures
    ∙ c.if-points_before-f-2.false)
    (sym c.points_before-3.ensures
    ∙ c.if-points_before-f-3.false) (sym
    c.points_before-4.ensures
    ∙ c.if-points_before-f-4.false) (sym c.points_before-5.ensures
    ∙ c.if-points_before-f-5.false) (sym c.points_before-6.ensures ∙ e))
    (λ h. c.points_before-6.ensures ∙ h.rank stop₂) (says_eqb _ _)
