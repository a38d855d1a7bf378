-- `equivalents::uses` meets its contract.
use mathlib.Core.Logic.{◌↔◌}
use lib.ListN.{take}
use borrow.Author.Rules.{rules}
use Rattle.std.specs.Prelude.{IsTrue}
use Rattle.equivalents.proofs.Columns.{InColumn, used_is}
use Rattle.equivalents.proofs.uses.Goals as goal

pub returns : goal.returns
returns c =
    let k : IsTrue c.any.result ↔ InColumn c.args.j (take c.args.b c.args.c.columns) =
    search rules in
    used_is c.args.c c.args.b c.args.j _ (search rules) k
