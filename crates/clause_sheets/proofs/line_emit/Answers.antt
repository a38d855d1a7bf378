-- `line_emit` meets its contract.
use mathlib.Core.Path.{refl, sym, ◌∙◌}
use native.Mathlib.Omega.{arith}
use Rattle.clause_sheets.proofs.LineParts.{split, unsplit, too_high, no_blank, behind}
use Rattle.clause_sheets.proofs.LineParts.{emitted_as, emitted_not}
use Rattle.clause_sheets.proofs.line_emit.Goals as goal

pub returns-in_default : goal.returns-in_default
returns-in_default c =
    emitted_not _ _ (unsplit c.args.s.now
    c.args.c c.requires
    (sym c.in_default.is ∙ c.read.ensures))

pub returns-then-v-gt63 : goal.returns-then-v-gt63
returns-then-v-gt63 c =
    emitted_not _ _ (too_high c.args.s.now
    c.args.c
    c.requires _ _
    (split c.args.s.now
    c.args.c
    c.requires _ _
    (sym c.in-Some.is
    ∙ c.read.ensures))
    c.if-v-gt63.true)

pub returns-then-end-at : goal.returns-then-end-at
returns-then-end-at c =
    emitted_not _ _ (no_blank c.args.s.now c.args.c
    c.requires _ _
    (split c.args.s.now
    c.args.c
    c.requires _ _
    (sym c.in-Some.is
    ∙ c.read.ensures))
    (omega (arith, c.if-v-gt63.false)) c.if-end-at.true)

pub slice_bounds-alternatives-end : goal.slice_bounds-alternatives-end
slice_bounds-alternatives-end c =
    let S = (split c.args.s.now
    c.args.c
    c.requires _ _
    (sym c.in-Some.is
    ∙ c.read.ensures)) in
    omega (arith, S.end, c.requires)

pub returns : goal.returns
returns c =
    emitted_as _ _ _ _ _ _
    (behind c.args.s.now c.args.c c.requires _ _ (split
    c.args.s.now
    c.args.c c.requires _ _
    (sym c.in-Some.is ∙ c.read.ensures))
    (omega (
      arith,
      c.if-v-gt63.false,
    )) (omega (
      arith,
      c.if-end-at.false,
    ))) c.alternatives-r.ensures refl
