-- `reports::merge_text` meets its contract: the lesser of two reports is put, or the refusal.
use native.Mathlib.Omega.{arith}
use mathlib.Core.Path.{sym, ◌∙◌}
use Rattle.reports.proofs.Merging.{take_one, take_two, told_short}
use Rattle.reports.proofs.merge_text.Goals as goal
use Rattle.reports.proofs.merge_text.Goals.{then-leads, else-leads}

pub put_bytes-requires : goal.put_bytes-requires
put_bytes-requires c =
    let s = c.in-Some-Some in
    elim c.if-leads.branch [
      | then-leads w ↦ rw w.merged-is
          (omega (arith, told_short c.args.two.now s.b s.ensures', c.requires))
      | else-leads w ↦ rw w.merged-is
          (omega (arith, told_short c.args.one.now s.a s.ensures, c.requires))
    ]

pub returns : goal.returns
returns c =
    let s = c.in-Some-Some in
    elim c.if-leads.branch [
      | then-leads w ↦ record {
        text = c.args.two.now;
        is = take_two _ _ s.a s.b s.ensures s.ensures' (sym c.leads.ensures ∙ w.if-leads.true);
        wrote = rw w.merged-is at c.put_bytes.ensures;
      }
      | else-leads w ↦ record {
        text = c.args.one.now;
        is = take_one _ _ s.a s.b s.ensures s.ensures' (sym c.leads.ensures ∙ w.if-leads.false);
        wrote = rw w.merged-is at c.put_bytes.ensures;
      }
    ]
