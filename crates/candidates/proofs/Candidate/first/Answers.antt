-- `candidates::Candidate::first` meets its contract: the least cells from 0 on are the first
-- candidate.
use Rattle.candidates.proofs.Windows.{filled_first}
use Rattle.candidates.proofs.Candidate.first.Goals as goal

pub returns : goal.returns
returns c = filled_first _ _ _ _ c.filled.ensures
