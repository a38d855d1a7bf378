-- `on_one` meets its contract: in each arm the call is known.
use Rattle.calling.proofs.on_one.Goals as goal

pub returns-in-ClausesSweep : goal.returns-in-ClausesSweep
returns-in-ClausesSweep c =
    let a = c.clauses_sweep_text.ensures in
    record {
      text = a.text;
      is = rw c.in-ClausesSweep.is a.is;
      wrote =
          a.wrote;
    }

pub returns-in-Expand : goal.returns-in-Expand
returns-in-Expand c =
    let a = c.expand_text.ensures in
    record {
      text = a.text;
      is = rw c.in-Expand.is a.is;
      wrote =
          a.wrote;
    }

pub returns-in-Share : goal.returns-in-Share
returns-in-Share c =
    let a = c.share_text.ensures in
    record {
      text = a.text;
      is = rw c.in-Share.is a.is;
      wrote =
          a.wrote;
    }
