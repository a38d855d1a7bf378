-- `arrangement_numbers::all_numbers` meets its contract: all share their first 0 cells.
use native.Mathlib.Omega.{arith}
use Rattle.arrangement_numbers.proofs.Working.{all_none, all_some, few_all}
use Rattle.arrangement_numbers.proofs.all_numbers.Goals as goal

pub returns-then-t-eq0 : goal.returns-then-t-eq0
returns-then-t-eq0 c = all_none _ _ c.requires.le_n.0 c.if-t-eq0.true

pub room_past-requires : goal.room_past-requires
room_past-requires c = record {
  few = few_all c.args.set c.args.n c.requires.le_n.0 c.requires.le_n.1
      (omega (arith, c.if-t-eq0.false)) c.requires.n_bound;
  b_le_n = omega arith;
}

pub returns : goal.returns
returns c = all_some _ _ _ c.requires.le_n.0 c.room_past.ensures
