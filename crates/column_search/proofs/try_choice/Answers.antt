-- What is left of the sheet of the one choice is filled, and it is read.
use native.Mathlib.Omega.{arith}
use Rattle.range_charts.proofs.Solving.{advanced_all}
use Rattle.range_charts.proofs.Unmoved.{solved_later}
use Rattle.column_search.proofs.Searching.{choice_all}
use Rattle.column_search.proofs.try_choice.Goals as goal

pub fill_between-requires : goal.fill_between-requires
fill_between-requires c =
    let p = c.requires in
    record {
      count_fits = (
        record { few = p.spread.0.few; whole = p.spread.0.whole },
        omega arith,
        p.to_le_count.0,
      );
      count_in_bounds = p.count_in_bounds;
      formed = p.formed;
      behind = p.to_le_count.1;
    }

pub verdict-v-requires : goal.verdict-v-requires
verdict-v-requires c = (
  c.requires.spread.0.few,
  omega (arith, c.requires.count_in_bounds, c.fill_between.ensures.advances.past.long),
)

pub returns : goal.returns
returns c =
    let f = c.fill_between.ensures in
    let p = c.requires in
    record {
      searched = choice_all p.formed.distinct p.spread.0 p.spread.1 p.spread.2 p.leaved
          (advanced_all f.advances) c.verdict-v.ensures c.with_verdict.ensures;
      behind = record {
        beside = f.beside;
        solved = solved_later (omega arith) f.advances.solved;
      };
    }
