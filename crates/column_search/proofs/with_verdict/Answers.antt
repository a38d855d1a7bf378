-- A verdict, a flag.
use Rattle.column_search.proofs.Flagging.{with_none, with_one, with_two}
use Rattle.column_search.proofs.with_verdict.Goals as goal

pub returns-in-None : goal.returns-in-None
returns-in-None c =
    with_none c.args.f c.args.v c.in-None.is

pub returns-in-One : goal.returns-in-One
returns-in-One c =
    with_one c.args.f c.args.v c.in-One.is

pub returns-in-Two : goal.returns-in-Two
returns-in-Two c =
    with_two c.args.f c.args.v c.in-Two.is
