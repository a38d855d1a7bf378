-- `list_weighed` meets its contract: the reply is on the list of all doubts.
use Rattle.call_always.proofs.Replies.{doubts_told}
use Rattle.call_always.proofs.list_weighed.Goals as goal

pub returns : goal.returns
returns c = doubts_told c.reply.ensures c.list_doubts.ensures
