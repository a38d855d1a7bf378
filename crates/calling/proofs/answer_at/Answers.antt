-- `answer_at` meets its contract: the call sheet is before the empty line, the call's sheets behind
-- it.
use mathlib.Core.Path.{◌≡◌, sym}
use Prim.Native.Nat.{◌+◌, ◌-◌}
use native.Mathlib.Omega.{arith}
use lib.ListN.{length, take, drop, length-drop}
use lib.Seq.{length-take-le, take_all}
use Rattle.call_sheets.proofs.Inside.{call_inside}
use borrow.Author.Rules.{rules}
use Rattle.calling.proofs.answer_at.Goals as goal

pub slice_bounds-call_of-end : goal.slice_bounds-call_of-end
slice_bounds-call_of-end c = sym (length-take-le _ _ (search rules))

pub slice_bounds-answer-end : goal.slice_bounds-answer-end
slice_bounds-answer-end c = sym (length-take-le _ _ (search rules))

pub answer-requires : goal.answer-requires
answer-requires c =
    let s = c.args in
    record {
      in_bounds = search rules;
      inside = rw (← c.call_of-call.ensures) at (call_inside (take s.i s.input.now));
    }

pub returns : goal.returns
returns c =
    let s = c.args in
    let n = s.i + 1 in
    let e : take (length s.input.now - n) (drop n s.input.now) ≡ drop n s.input.now =
    take_all (length s.input.now - n) (drop n s.input.now)
    (omega (arith, length-drop n s.input.now)) in
    rw c.call_of-call.ensures at (rw e at c.answer.ensures)
