-- The search is over the terminals that no smaller one replaces and the rules that 0 reaches, which
-- settles it for all; with no terminal there is no candidate.
use Rattle.spans.proofs.ChangeLaws.{past_same}
use Rattle.candidates.proofs.TerminalSets.{among_terminal, lowest_of, none_of}
use Rattle.reachable_rules.proofs.TreeLaws.{two_trimmed}
use Rattle.sweeping.proofs.Answers.{found_of, found_none, searched_all, none_all}
use Rattle.sweeping.proofs.Answers.{searched_over, admits_over}
use Rattle.sweeping.proofs.find.Goals as goal

pub returns-in_err-low : goal.returns-in_err-low
returns-in_err-low c = record {
  found = rw c.from_residual.ensures
      (found_none (among_terminal c.args.g c.terminals.result c.requires.formed c.terminals.ensures)
      (none_all c.needed-set.ensures (none_of _ c.in_err-low.ensures)));
  past = past_same _ _;
}

pub find_among-requires : goal.find_among-requires
find_among-requires c =
    let r = c.reachable-few.ensures in record {
      le_k = c.requires.le_k;
      lowest = lowest_of _ _ c.in_ok-low.ensures;
      formed = r.1;
      admits = admits_over (λ w. two_trimmed r.0) c.requires.admits;
      k_in_bounds = c.requires.k_in_bounds;
    }

pub returns : goal.returns
returns c =
    let q = c.find_among in record {
      found = found_of
          (among_terminal c.args.g c.terminals.result c.requires.formed c.terminals.ensures) _ _
          (searched_all c.needed-set.ensures _ _
          (searched_over _ (λ w. two_trimmed c.reachable-few.ensures.0) _ _ q.ensures.searched));
      past = q.ensures.past;
    }
