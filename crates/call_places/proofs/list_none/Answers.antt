-- `list_none` meets its contract: nothing was put.
use Rattle.call_places.proofs.list_none.Goals as goal

pub returns : goal.returns
returns c =
    c.finish.ensures.gives (c.begin.ensures.puts c.args.list.now)
