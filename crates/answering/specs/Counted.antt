-- The result on what the tree writer counts (inner): the trees' counts, or refusal 22.
use Rattle.std.specs.Prelude.{Option, Some, None, Result}
use Rattle.tree_writer.specs.declared.Counts.{Counts}
use Rattle.grammar.specs.declared.Verdict.{Verdict}
use Rattle.sheets.specs.declared.Fault.TheVariants as Fault
use Rattle.sheets.specs.declared.Refusal.{Refusal}
use Rattle.sheets.specs.Results.{refusal}
use Rattle.answering.specs.declared.TreeRows.{TreeRows}
use Rattle.answering.specs.Trees.{trees_reply_of}

abbrev pub counted : Verdict → Option Counts → Result TreeRows Refusal
counted v (Some c) = trees_reply_of v c.first c.second
counted v None = refusal Fault.FewRows 0
