-- The span sheet is filled, by what the chart answers.
use mathlib.Core.Path.{◌≡◌, ap}
use mathlib.Core.List.{List}
use Prim.Native.Nat.{ℕ}
use lib.ListN.{length}
use Rattle.grammar.specs.Layout.{Word}
use Rattle.grammar.specs.Trees.{Rules}
use Rattle.grammar.specs.SpanSheet.{pairs}
use Rattle.spans.proofs.ChangeLaws.{past_drop}
use Rattle.grammar.specs.declared.Verdict.{Verdict}
use Rattle.chart.specs.Sheets.{Judged}
use Rattle.answering.specs.Verdict.{SheetFilled}

pub filled_by : {v : Verdict} {g : Rules} {w : Word} {n : ℕ} {ws ws' : List ℕ} → length w ≡ n
    → Judged v g w n ws ws' → SheetFilled g w ws ws'
filled_by {w = w} {n = n} e j =
    record {
      long = j.past.long;
      sheet = j.sheet;
      past = rw (ap pairs e) (past_drop j.past);
    }
