-- Two stores.
use Rattle.spans.proofs.ChangeLaws.{wrote}
use Rattle.spans.proofs.write.Goals as goal

pub returns : goal.returns
returns c = wrote c.args.words.now c.args.p c.args.a c.args.b c.requires
