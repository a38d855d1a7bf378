-- Two words get the cuts.
use Rattle.contained_spans.proofs.SeeLaws.{unseen_made}
use Rattle.contained_spans.proofs.unseen.Goals as goal

pub returns : goal.returns
returns c = unseen_made c.args.seen.now c.args.p c.args.q c.args.set c.requires.0
    c.requires.1
