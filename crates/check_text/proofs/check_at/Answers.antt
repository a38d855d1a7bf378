-- `check_text::check_at` meets its contract: the two parts of the input are the two sheets.
use mathlib.Core.Path.{◌≡◌, sym}
use Prim.Native.Nat.{◌+◌, ◌-◌}
use native.Mathlib.Omega.{arith}
use lib.ListN.{length, take, drop, length-drop}
use lib.Seq.{length-take-le, take_all}
use borrow.Author.Rules.{rules}
use Rattle.check_text.proofs.check_at.Goals as goal

pub slice_bounds-check_sheets-end : goal.slice_bounds-check_sheets-end
slice_bounds-check_sheets-end c = sym (length-take-le _ _ (search rules))

pub returns : goal.returns
returns c =
    let s = c.args in
    let n = s.i + 1 in
    let e : take (length s.input.now - n) (drop n s.input.now) ≡ drop n s.input.now =
    take_all (length s.input.now - n) (drop n s.input.now)
    (omega (arith, length-drop n s.input.now)) in
    rw e at c.check_sheets.ensures
