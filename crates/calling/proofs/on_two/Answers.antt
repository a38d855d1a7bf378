-- `on_two` meets its contract: in each arm the call is known.
use borrow.Author.Rules.{rules}
use Rattle.calling.proofs.on_two.Goals as goal

pub change_call-requires : goal.change_call-requires
change_call-requires c =
    record { in_bounds = search rules; at_in_bounds = rw c.in-Change.is at c.requires.mark_inside }

pub returns-in-Clauses : goal.returns-in-Clauses
returns-in-Clauses c =
    let a = c.clauses_text.ensures in
    record {
      text = a.text;
      is = rw c.in-Clauses.is a.is;
      wrote =
          a.wrote;
    }

pub returns-in-Rows : goal.returns-in-Rows
returns-in-Rows c =
    let a = c.rows_text.ensures in
    record {
      text = a.text;
      is = rw c.in-Rows.is a.is;
      wrote =
          a.wrote;
    }

pub returns-in-Merge : goal.returns-in-Merge
returns-in-Merge c =
    let a = c.merge_text.ensures in
    record {
      text = a.text;
      is = rw c.in-Merge.is a.is;
      wrote =
          a.wrote;
    }

pub returns-in-Columns : goal.returns-in-Columns
returns-in-Columns c =
    let a = c.columns_text.ensures in
    record {
      text = a.text;
      is = rw c.in-Columns.is a.is;
      wrote =
          a.wrote;
    }

pub returns-in-Places : goal.returns-in-Places
returns-in-Places c =
    let a = c.places_text.ensures in
    record {
      text = a.text;
      is = rw c.in-Places.is a.is;
      wrote =
          a.wrote;
    }

pub returns-in-Show : goal.returns-in-Show
returns-in-Show c =
    let a = c.show_call.ensures in
    record {
      text = a.text;
      is = rw c.in-Show.is a.is;
      wrote =
          a.wrote;
    }

pub returns-in-Change : goal.returns-in-Change
returns-in-Change c =
    let a = c.change_call.ensures in
    record {
      text = a.text;
      is = rw c.in-Change.is a.is;
      wrote =
          a.wrote;
    }
