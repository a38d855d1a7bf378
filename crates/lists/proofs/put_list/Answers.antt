-- `put_list` meets its contract.
use native.Mathlib.Nat.{zero-add}
use Rattle.lists.proofs.put_list.Goals as goal

pub returns : goal.returns
returns c =
    rw zero-add at (c.finish.ensures.gives (c.put-l.ensures.puts (c.begin.ensures.puts _)))
