use Rattle.pair_frames.proofs.points_before.Goals as goal

pub returns : goal.returns
returns c =
    rw (
      c.one_more.ensures.0,
      c.one_more-e.ensures.0,
      c.one_more-d.ensures.0,
      c.one_more-c.ensures.0,
      c.one_more-b.ensures.0,
      c.one_more-a.ensures.0,
    )
