-- `group_end` meets its contract.
use mathlib.Core.Path.{sym, ap, ◌∙◌}
use Rattle.clause_rules.specs.declared.Role.{Role}
use Rattle.clause_rules.specs.Roles.{role_number}
use Rattle.clause_rules.proofs.Roles.{same_role}
use native.Mathlib.Omega.{arith}
use Rattle.clause_rules.proofs.Scans.{scan_start, scan_stop, scan_open, scan_on, scan_closed}
use Rattle.clause_rules.proofs.Scans.{scan_close, lexes_further, one_six, two_six}
use Rattle.clause_rules.proofs.group_end.Goals as goal

pub loop-deep-init : goal.loop-deep-init
loop-deep-init c = scan_start _ _ c.requires

pub lexeme_at-x-requires : goal.lexeme_at-x-requires
lexeme_at-x-requires c = c.loop-deep.invariant.within

pub returns-in-End : goal.returns-in-End
returns-in-End c =
    let L = c.loop-deep in
    scan_stop _ _ _ _ L.invariant _ c.lexeme_at-x.ensures
    (sym c.role_of.ensures ∙ ap role_number c.in-End.is)

pub overflow_add-deep : goal.overflow_add-deep
overflow_add-deep c = let L = c.loop-deep in
    omega (arith, L.invariant.few, L.invariant.within)

pub loop-deep-smaller-in-Open : goal.loop-deep-smaller-in-Open
loop-deep-smaller-in-Open c =
    let X = c.lexeme_at-x.ensures in
    let z = lexes_further _ _ _ X (λ y. one_six
    (sym (ap role_number c.in-Open.is) ∙ c.role_of.ensures ∙ y)) in
    omega (arith, X.within)

pub loop-deep-preserved-in-Open : goal.loop-deep-preserved-in-Open
loop-deep-preserved-in-Open c =
    scan_open _ _ _ _ c.loop-deep.invariant _
    c.lexeme_at-x.ensures
    (sym c.role_of.ensures ∙ ap role_number c.in-Open.is)

pub returns-then-deep-eq0 : goal.returns-then-deep-eq0
returns-then-deep-eq0 c =
    scan_closed _ _ _ _ c.loop-deep.invariant _
    c.lexeme_at-x.ensures
    (sym c.role_of.ensures ∙ ap role_number c.in-Close.is)
    c.if-deep-eq0.true

pub overflow_sub-deep : goal.overflow_sub-deep
overflow_sub-deep c = omega (arith, c.if-deep-eq0.false)

pub loop-deep-smaller-in-Close : goal.loop-deep-smaller-in-Close
loop-deep-smaller-in-Close c =
    let X = c.lexeme_at-x.ensures in
    let z = lexes_further _ _ _ X (λ y. two_six
    (sym (ap role_number c.in-Close.is) ∙ c.role_of.ensures ∙ y)) in
    omega (arith, X.within)

pub loop-deep-preserved-in-Close : goal.loop-deep-preserved-in-Close
loop-deep-preserved-in-Close c =
    scan_close _ _ _ _ c.loop-deep.invariant _
    c.lexeme_at-x.ensures
    (sym c.role_of.ensures ∙ ap role_number c.in-Close.is)
    c.if-deep-eq0.false

pub loop-deep-smaller : goal.loop-deep-smaller
loop-deep-smaller c =
    let X = c.lexeme_at-x.ensures in
    let u = c.role_of.ensures in
    let z = lexes_further _ _ _ X (λ y. c.in_default.not-End (same_role _ Role.End (u ∙ y))) in
    omega (arith, X.within)

pub loop-deep-preserved : goal.loop-deep-preserved
loop-deep-preserved c =
    let u = c.role_of.ensures in
    scan_on _ _ _ _ c.loop-deep.invariant _
    c.lexeme_at-x.ensures
    (λ y. c.in_default.not-End (same_role _ Role.End (u ∙ y)))
    (λ y. c.in_default.not-Open (same_role _ Role.Open (u ∙ y)))
    (λ y. c.in_default.not-Close (same_role _ Role.Close (u ∙ y)))
