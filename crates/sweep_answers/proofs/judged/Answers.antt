-- `judged` meets its contract: 23, 24 and 21 by their tests, else the search.
use mathlib.Core.Path.{refl}
use mathlib.Core.Logic.{inl, inr}
use native.Mathlib.Omega.{arith}
use Rattle.sets.proofs.Basics.{not_le}
use Rattle.sheets.proofs.Exits.{no_line}
use Rattle.sweep_answers.specs.Sweep.{bound, many, short}
use Rattle.sweep_answers.proofs.judged.Goals as goal

pub returns-then-k-eq0 : goal.returns-then-k-eq0
returns-then-k-eq0 c = bound (inl (omega arith)) refl (no_line c.into.ensures) refl

pub returns-then-k-gt7 : goal.returns-then-k-gt7
returns-then-k-gt7 c = bound (inr (omega arith)) refl (no_line c.into-then-k-gt7.ensures) refl

pub returns-then-not-within_limit : goal.returns-then-not-within_limit
returns-then-not-within_limit c =
    let e = c.terminal_count-t.ensures.terminals _ c.terminals.ensures in
    let l = c.within_limit.ensures.isnt c.if-not-within_limit.true in
    many (omega arith) (omega arith) (rw e at (not_le _ _ l)) refl
    (no_line c.into-then-not-within_limit.ensures) refl

pub returns-then-words-size : goal.returns-then-words-size
returns-then-words-size c =
    let e = c.terminal_count-t.ensures.terminals _ c.terminals.ensures in
    let l = c.within_limit.ensures.is c.if-not-within_limit.false in
    short (omega arith) (omega arith) (rw e at l)
    (rw c.size.ensures at c.if-words-size.true) refl (no_line c.into-then-words-size.ensures) refl

pub taken-requires : goal.taken-requires
taken-requires c =
    let e = c.terminal_count-t.ensures.terminals _ c.terminals.ensures in
    let l = c.within_limit.ensures.is c.if-not-within_limit.false in record {
      formed = c.requires.formed;
      exact = c.requires.exact;
      sweep_taken = record {
        low = omega arith;
        high = omega arith;
        few = rw e at l;
        enough = omega (arith, c.size.ensures, c.if-words-size.false);
      };
    }
