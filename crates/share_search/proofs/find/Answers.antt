-- Over the terminals of the sheet, by the rules that 0 reaches, in another order; with no terminal
-- there is no candidate.
use borrow.Author.Rules.{rules}
use Prim.Native.Nat.{◌^◌, ◌<◌}
use Rattle.spans.proofs.ChangeLaws.{past_same}
use Rattle.candidates.proofs.TerminalSets.{among_terminal, lowest_of, none_of}
use Rattle.equivalents.proofs.Renamed.{renames_of, renames_over}
use Rattle.share_search.proofs.Reports.{few_of, found_of, found_none}
use Rattle.reachable_rules.proofs.TreeLaws.{two_trimmed}
use Rattle.share_search.proofs.find.Goals as goal

pub returns-in_err-low : goal.returns-in_err-low
returns-in_err-low c =
    let s = c.terminals-set in record {
      found = rw c.from_residual.ensures
          (found_none (among_terminal c.args.g s.result c.requires.formed s.ensures)
          c.requires.le_n.0 (none_of _ c.in_err-low.ensures));
      past = past_same _ _;
    }

pub needed-kept-requires : goal.needed-kept-requires
needed-kept-requires c = c.requires.formed

pub search_over-requires : goal.search_over-requires
search_over-requires c =
    let s = c.terminals-set in
    let sm : s.result < 2 ^ 64 = search rules in
    let r = c.reachable-few.ensures in
    let w = lowest_of _ _ c.in_ok-low.ensures in record {
      few = (
        few_of _ _ c.args.n _ sm
            c.requires.le_n.0 c.requires.le_n.1 s.ensures w c.requires.n_bound,
        w,
        renames_over
            (λ w. two_trimmed r.0) (renames_of c.needed-kept.ensures),
      );
      formed = r.1;
      n_in_bounds = c.requires.n_in_bounds;
    }

pub returns : goal.returns
returns c =
    let s = c.terminals-set in
    let sm : s.result < 2 ^ 64 = search rules in
    let q = c.search_over in record {
      found = found_of s.result c.args.n
          sm
          s.ensures (among_terminal c.args.g s.result c.requires.formed s.ensures)
          (λ w. two_trimmed c.reachable-few.ensures.0) _ _ _
          q.ensures.searched;
      past = q.ensures.past;
    }
