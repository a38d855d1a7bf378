use mathlib.Core.Path.{sym, ◌∙◌, subst}
use Prim.Native.Nat.{ℕ, ◌<◌}
use Rattle.row_counts.proofs.NullLaws.{nulls_of}
use Rattle.row_counts.proofs.Firsts.{root_small}
use Rattle.row_counts.proofs.null_counts.Goals as goal

pub loop-s-init : goal.loop-s-init
loop-s-init c = c.requires.sound

pub null_pass-more-requires : goal.null_pass-more-requires
null_pass-more-requires c = record
    { ready = c.requires.ready; has_firsts = c.requires.has_firsts; sound = c.loop-s.invariant }

pub shape_of-z-then-not-more : goal.shape_of-z-then-not-more
shape_of-z-then-not-more c =
    let null-pass = c.null_pass-more in
    null-pass.ensures.sound.long ∙ sym c.requires.sound.long

pub returns-then-not-more : goal.returns-then-not-more
returns-then-not-more c =
    let null-pass = c.null_pass-more in
    nulls_of (λ B u f. subst (λ (x : ℕ). x < 64) f.rooted
    (root_small c.requires.ready.formed u f.first)) c.if-not-more.true
    null-pass.ensures

pub loop-s-smaller : goal.loop-s-smaller
loop-s-smaller c = c.null_pass-more.ensures.found c.if-not-more.false

pub loop-s-preserved : goal.loop-s-preserved
loop-s-preserved c = c.null_pass-more.ensures.sound
