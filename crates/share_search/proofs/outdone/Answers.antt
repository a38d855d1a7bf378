-- By a cell that is no better than an earlier one, or by the refutation of the block.
use Rattle.spans.proofs.ChangeLaws.{past_same}
use Rattle.share_search.proofs.outdone.Goals as goal

pub passable-requires : goal.passable-requires
passable-requires c = record {
  b_le_n = (c.requires.n_bound.1, c.requires.n_bound.0);
  candidate = c.requires.n_bound.2;
}

pub returns-then-passable : goal.returns-then-passable
returns-then-passable c = record {
  replaceable = (
    λ e. (c.passable.ensures c.if-passable.true).replaceable _ c.requires.n_bound.4,
    past_same _
        _,
  );
  mirrored_2 = c.requires.mirrored;
}

pub twinned-requires : goal.twinned-requires
twinned-requires c = c.requires

pub returns : goal.returns
returns c = c.twinned.ensures
