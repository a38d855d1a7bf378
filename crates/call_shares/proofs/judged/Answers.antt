-- `call_shares::judged` meets its contract: 23 and 24 by their tests, else the share.
use mathlib.Core.Path.{refl}
use mathlib.Core.Logic.{inl, inr}
use native.Mathlib.Omega.{arith}
use Rattle.sets.proofs.Basics.{not_le}
use Rattle.sheets.proofs.Exits.{no_line}
use Rattle.call_shares.specs.Share.{bound, many}
use Rattle.call_shares.proofs.judged.Goals as goal

pub returns-then-n-eq0 : goal.returns-then-n-eq0
returns-then-n-eq0 c = bound (inl (omega arith)) refl (no_line c.into.ensures) refl

pub returns-then-n-gt7 : goal.returns-then-n-gt7
returns-then-n-gt7 c = bound (inr (omega arith)) refl (no_line c.into-then-n-gt7.ensures) refl

pub returns-then-not-within_limit : goal.returns-then-not-within_limit
returns-then-not-within_limit c =
    let e = c.terminal_count-t.ensures.terminals _ c.terminals.ensures in
    let l = c.within_limit.ensures.isnt c.if-not-within_limit.true in
    many (omega arith) (omega arith) (rw e at (not_le _ _ l)) refl
    (no_line c.into-then-not-within_limit.ensures) refl

pub divided-requires : goal.divided-requires
divided-requires c =
    let e = c.terminal_count-t.ensures.terminals _ c.terminals.ensures in
    let l = c.within_limit.ensures.is c.if-not-within_limit.false in record {
      formed = c.requires;
      length = record
          { low = omega arith; high = omega arith; few = rw e at l };
    }
