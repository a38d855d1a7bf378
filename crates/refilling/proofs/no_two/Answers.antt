use Rattle.chart.proofs.SheetLaws.{settles}
use Rattle.marks.proofs.DraftLaws.{drafted_length}
use Rattle.refilling.proofs.no_two.Goals as goal

pub returns : goal.returns
returns c = record {
  settles = settles
      (drafted_length c.args.d c.well_formed.1.1.0.1.1.0.1.0.1 c.requires.count_bound.0)
      c.refill.ensures.charted
      c.in_second.ensures;
  mirrored_2 = c.refill.ensures.mirrored_2;
}
