-- The first line is tried as the definition tries it.
use mathlib.Core.Path.{sym, ap, subst}
use mathlib.Core.List.{List, []}
use Rattle.sheets.specs.Items.{Reading, refused, items_from}
use Rattle.sheets.proofs.Names.{behind_some, behind_none}
use Rattle.column_ranges.specs.declared.RangeToken.{RangeToken}
use Rattle.range_sheets.specs.RangeSheets.{range_names, range_step, few_choices}
use Rattle.range_sheets.specs.Promises.{RangesRead}
use Rattle.range_sheets.proofs.read_ranges.Goals as goal

pub returns-in-Some : goal.returns-in-Some
returns-in-Some c =
    subst (λ (x : Reading (List RangeToken)). RangesRead c.ranges_from.result (few_choices x))
    (behind_some (refused 11 1) range_names (items_from range_step []) c.args.s.now
    c.in-Some.ensures) c.ranges_from.ensures

pub returns-in-None : goal.returns-in-None
returns-in-None c = record {
  is = ap few_choices (sym (behind_none (refused 11 1) range_names (items_from range_step [])
      c.args.s.now c.in-None.ensures));
}
