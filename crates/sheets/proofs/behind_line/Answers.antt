-- `sheets::behind_line` meets its contract: the first line is tried as the definition tries it.
use mathlib.Core.Path.{◌≡◌, sym, ap, ◌∙◌}
use native.Mathlib.Omega.{arith}
use lib.ListN.{length, take}
use lib.Seq.{length-take-le}
use Rattle.fields.proofs.Cuts.{same_path}
use Rattle.sheets.specs.Items.{accepted, refused}
use Rattle.sheets.proofs.Names.{names_good, names_other, names_open}
use Rattle.sheets.proofs.behind_line.Goals as goal

pub slice_bounds-eq-end : goal.slice_bounds-eq-end
slice_bounds-eq-end c = sym (length-take-le _ _ (omega (arith, c.if-end-s.true)))

pub returns-then-eq : goal.returns-then-eq
returns-then-eq c =
    let s = c.args.s.now in
    let names = c.args.names.now in
    let x = c.args.c in
    let l : length (take x.end s) ≡ length names = ap length
    (same_path (take x.end s) names (sym c.eq.ensures ∙ c.if-eq.true)) in (
      omega (arith, c.if-end-s.true),
      omega (arith, l, length-take-le x.end s (omega (arith, c.if-end-s.true))),
      sym (names_good (refused 0 0) names s accepted x c.requires c.if-end-s.true
          (sym c.if-eq.true ∙ c.eq.ensures)),
    )

pub returns-else-eq : goal.returns-else-eq
returns-else-eq c =
    sym (names_other (refused 0 0) c.args.names.now c.args.s.now accepted c.args.c
    c.requires c.if-end-s.true (sym c.if-eq.false ∙ c.eq.ensures))

pub returns-else-end-s : goal.returns-else-end-s
returns-else-end-s c =
    sym (names_open (refused 0 0) c.args.names.now c.args.s.now accepted c.args.c
    c.requires c.if-end-s.false)
