-- `rows_text` meets its contract: the lent words are those of the promise of `rows`.
use mathlib.Core.Path.{◌≡◌, refl}
use Prim.Native.Nat.{ℕ}
use lib.ListN.{length-replicate}
use Rattle.grammar.specs.declared.Verdict.{Verdict}
use Rattle.std.specs.Prelude.{Option}
use Rattle.sheets.specs.Results.{verdict_answer}
use Rattle.printing.proofs.Writing.{wrote_none, wrote_then}
use Rattle.text_trees.specs.Rows.{count_lines, rows_text, answered}
use Rattle.text_trees.proofs.rows_text.Goals as goal

-- each verdict has counts
with_counts : (v : Verdict) (m n : Option ℕ) → rows_text (verdict_answer v) m n ≡ count_lines m n
with_counts Verdict.None m n = refl
with_counts Verdict.One m n = refl
with_counts Verdict.Two m n = refl

pub returns-in-Ok : goal.returns-in-Ok
returns-in-Ok c =
    let by = rw c.in-Ok.is at c.rows.ensures in
    let r = c.in-Ok.r in
    record {
      text = _;
      is = answered (length-replicate {A = ℕ} 4162 0) by refl;
      wrote =
          wrote_then (rw c.into.ensures at c.put_head-n.ensures.wrote)
          (rw (with_counts r.verdict r.first r.second) c.put_counts.ensures);
    }

pub returns-in-Err : goal.returns-in-Err
returns-in-Err c =
    let by = rw c.in-Err.is at c.rows.ensures in
    record {
      text = _;
      is = answered (length-replicate {A = ℕ} 4162 0) by refl;
      wrote = wrote_then c.put_head.ensures.wrote (wrote_none _ _);
    }
