-- `on_sheets` meets its contract: in each arm the call is known.
use borrow.Author.Rules.{rules}
use Rattle.calling.proofs.on_sheets.Goals as goal

pub on_parted-requires : goal.on_parted-requires
on_parted-requires c =
    record { in_bounds = search rules; mark_inside = rw c.in-Two.is at c.requires.sheets_inside }

pub returns-in-One : goal.returns-in-One
returns-in-One c =
    let a = c.on_one.ensures in
    record {
      text = a.text;
      is = rw c.in-One.is a.is;
      wrote =
          a.wrote;
    }

pub returns-in-Two : goal.returns-in-Two
returns-in-Two c =
    let a = c.on_parted.ensures in
    record {
      text = a.text;
      is = rw c.in-Two.is a.is;
      wrote =
          a.wrote;
    }
