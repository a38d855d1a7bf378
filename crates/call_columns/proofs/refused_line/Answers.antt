-- `refused_line` meets its contract: what is held goes by what both sheets give.
use mathlib.Core.Path.{subst}
use Rattle.sheets.specs.RefusedLines.{Hands}
use Rattle.sheets.proofs.Walks.{rule_exists}
use Rattle.sheets.proofs.Readings.{rules_told}
use Rattle.range_sheets.proofs.Exists.{range_exists}
use Rattle.range_sheets.proofs.Accepted.{ranges_told}
use Rattle.sheets.proofs.Handed.{held_same, line_in}
use Rattle.call_columns.proofs.refused_line.Goals as goal

pub refused_read-requires : goal.refused_read-requires
refused_read-requires c =
    let z = c.args in
    let e = rules_told _ c.read_rules.ensures in
    let d = ranges_told _ c.read_ranges.ensures in record {
      line_in = rw c.err-g.ensures.value (line_in _ z.rules.now _ e (rule_exists z.rules.now));
      line_in_2 = rw c.err-t.ensures.value (line_in _ z.ranges.now _ d (range_exists z.ranges.now));
    }

pub returns : goal.returns
returns c =
    let z = c.args in
    let e = rules_told _ c.read_rules.ensures in
    let d = ranges_told _ c.read_ranges.ensures in
    subst (Hands z.rules z.ranges c.refused_read.result) (held_same _ _ _ _ e d)
    (rw (c.err-g.ensures.value, c.err-t.ensures.value) at c.refused_read.ensures)
