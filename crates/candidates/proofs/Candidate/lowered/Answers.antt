-- `candidates::Candidate::lowered` meets its contract: the least terminal at the least spot is the
-- least cell.
use Rattle.candidates.proofs.Windows.{room_at, lowered_at}
use Rattle.candidates.proofs.Candidate.lowered.Goals as goal

pub least_spot-w-requires : goal.least_spot-w-requires
least_spot-w-requires c =
    room_at c.args.n c.args.self c.args.i _ _ c.largest_step-m.ensures
    c.column_before-p.ensures c.requires.le_n.0 c.requires.le_n.1

pub returns : goal.returns
returns c =
    lowered_at c.args.n c.args.self c.args.i _ _ c.largest_step-m.ensures
    c.column_before-p.ensures _ _ _ _ _ c.requires.lowest c.least_spot-w.ensures
    c.with.ensures
