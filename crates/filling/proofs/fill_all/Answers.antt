-- Single tokens first, then the rest.
use mathlib.Core.Path.{subst}
use native.Mathlib.Omega.{arith}
use Rattle.grammar.specs.Content.{rules_of}
use Rattle.marks.specs.Drafts.{drafted}
use Rattle.spans.proofs.ChangeLaws.{past_then}
use Rattle.chart.specs.Sheets.{Exact}
use Rattle.chart.proofs.SheetLaws.{begun_ready}
use Rattle.filling.proofs.fill_all.Goals as goal

pub fill-requires : goal.fill-requires
fill-requires c =
    let b = c.fill_leaves.ensures in
    record {
      count_bound = (c.requires.count_bound.0, omega (arith, c.requires.count_bound.1));
      count_in_bounds = omega (arith, c.requires.count_in_bounds, b.past.long);
      formed = c.requires.formed;
      ready = begun_ready c.requires.count_bound.1 b;
    }

pub returns : goal.returns
returns c =
    let f = c.fill in
    let d = c.args.d in record {
      exact = subst (Exact (rules_of c.args.g) (drafted d) d.count f.new.words)
          c.requires.count_bound.1
          f.ensures.exact;
      past = past_then c.fill_leaves.ensures.past f.ensures.past;
    }
