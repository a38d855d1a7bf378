-- `printing::put_bytes` meets its contract, a byte a turn.
use mathlib.Core.Path.{◌≡◌}
use native.Mathlib.Nat.{add-zero}
use borrow.Author.Rules.{rules}
use lib.ListN.{length}
use lib.Seq.{take_all}
use Rattle.printing.proofs.Writing.{wrote_none, wrote_turn}
use Rattle.printing.proofs.put_bytes.Goals as goal

pub loop-i-init : goal.loop-i-init
loop-i-init c = (search rules, rw (add-zero c.args.at) (wrote_none _ _))

pub loop-i-preserved : goal.loop-i-preserved
loop-i-preserved c = (
  search rules,
  wrote_turn _ _ _ _ _ (search rules) (search rules)
      c.loop-i.invariant.1,
)

pub returns : goal.returns
returns c =
    let w = c.loop-i.invariant.1 in
    let e : c.loop-i.i ≡ length c.args.bytes.now = search rules in
    rw (take_all c.loop-i.i c.args.bytes.now (search rules), e) at w
