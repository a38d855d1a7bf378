-- `sheets::tokens_from` meets its contract. The loop's invariant: what the rest of the sheet says
-- after the items read is what the sheet says.
use Prim.Native.Nat.{◌-◌}
use lib.ListN.{length}
use Rattle.sheets.specs.TokenSheets.{token_says}
use Rattle.sheets.proofs.Loop.{Filled}
use Rattle.sheets.proofs.tokens_from.Given as goal

abbrev pub invariant-loop-t : goal.invariant-loop-t
invariant-loop-t l =
    Filled 64 14 12 (token_says l.wide) l.s l.start l.tokens l.n l.at

abbrev pub decreases-loop-t : goal.decreases-loop-t
decreases-loop-t l = length l.s - l.at
