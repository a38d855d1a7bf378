-- All is filled once, then the choices are gone through.
use native.Mathlib.Omega.{arith}
use Rattle.range_charts.proofs.Unmoved.{solved_all}
use Rattle.column_search.proofs.Few.{first_before}
use Rattle.column_search.proofs.Searching.{leaved_small, searched_after}
use Rattle.column_search.proofs.search_rest.Goals as goal

pub fill_ranges-requires : goal.fill_ranges-requires
fill_ranges-requires c =
    let p = c.requires in
    record {
      count_fits = record { few = p.spread.few; whole = p.spread.whole };
      count_in_bounds = p.count_in_bounds;
      formed = (p.formed, p.beside);
    }

pub search_few-requires : goal.search_few-requires
search_few-requires c =
    let p = c.requires in
    let f = c.fill_ranges.ensures in
    record {
      formed = p.formed;
      spread = p.spread;
      count_in_bounds = omega (arith, f.solves.past.long, p.count_in_bounds);
      leaved = leaved_small f.solves.small p.leaved;
      to_le_count = (
        omega arith,
        record { each = λ k h l. absurd (omega (arith, p.spread.whole)) },
        first_before _ _ c.first_token.ensures c.unwrap_or-from.ensures,
      );
      behind = record { beside = f.beside; solved = solved_all _ _ f.solves };
    }

pub returns : goal.returns
returns c =
    let f = c.fill_ranges.ensures.solves in
    let s = c.search_few.ensures in
    record {
      searched = searched_after (record { small = f.small; past = f.past }) s.searched;
      beside_2 = s.behind_2.beside;
    }
