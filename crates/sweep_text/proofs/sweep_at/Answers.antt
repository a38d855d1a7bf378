-- `sweep_text::sweep_at` meets its contract: the bound is before the empty line, the rule sheet
-- behind
-- it.
use mathlib.Core.Path.{◌≡◌, sym}
use Prim.Native.Nat.{◌+◌, ◌-◌}
use native.Mathlib.Omega.{arith}
use lib.ListN.{length, take, drop, length-drop}
use lib.Seq.{length-take-le, take_all}
use borrow.Author.Rules.{rules}
use Rattle.sweep_text.specs.Swept.{unbound, bound}
use Rattle.sweep_text.proofs.sweep_at.Goals as goal

pub slice_bounds-bound_of-end : goal.slice_bounds-bound_of-end
slice_bounds-bound_of-end c = sym (length-take-le _ _ (search rules))

pub returns-in-None : goal.returns-in-None
returns-in-None c = unbound (sym c.in-None.ensures) c.put_refusal.ensures

pub returns-in-Some : goal.returns-in-Some
returns-in-Some c =
    let s = c.args in
    let n = s.i + 1 in
    let e : take (length s.input.now - n) (drop n s.input.now) ≡ drop n s.input.now =
    take_all (length s.input.now - n) (drop n s.input.now)
    (omega (arith, length-drop n s.input.now)) in
    bound (sym c.in-Some.ensures) (rw e at c.sweep_sheet.ensures)
