-- `on_parted` meets its contract: the first empty line parts the sheets.
use mathlib.Core.Path.{◌≡◌, refl, sym}
use Prim.Native.Nat.{◌+◌, ◌-◌}
use native.Mathlib.Omega.{arith}
use lib.ListN.{length, take, drop, length-drop}
use lib.Seq.{length-take-le, take_all}
use Rattle.calling.specs.Calls.{fewer, two}
use borrow.Author.Rules.{rules}
use Rattle.calling.proofs.on_parted.Goals as goal

pub overflow_add-j : goal.overflow_add-j
overflow_add-j c =
    let h = (rw c.in-Some.is at c.parting.ensures).0 in search rules

pub slice_bounds-on_two-end : goal.slice_bounds-on_two-end
slice_bounds-on_two-end c =
    let h = (rw c.in-Some.is at c.parting.ensures).0 in sym (length-take-le _ _ (search rules))

pub slice_bounds-on_two-count : goal.slice_bounds-on_two-count
slice_bounds-on_two-count c =
    let h = (rw c.in-Some.is at c.parting.ensures).0 in search rules

pub slice_bounds-on_two-start : goal.slice_bounds-on_two-start
slice_bounds-on_two-start c =
    let h = (rw c.in-Some.is at c.parting.ensures).0 in search rules

pub returns-in-None : goal.returns-in-None
returns-in-None c =
    let s = c.parting.ensures in
    record {
      text = _;
      is = fewer (rw c.in-None.is at s) refl;
      wrote =
          c.put_refusal.ensures;
    }

pub returns-in-Some : goal.returns-in-Some
returns-in-Some c =
    let a = c.args in
    let n = c.in-Some.i + 1 in
    let e : take (length a.s.now - n) (drop n a.s.now) ≡ drop n a.s.now =
    take_all (length a.s.now - n) (drop n a.s.now)
    (omega (arith, length-drop n a.s.now)) in
    let w = rw e at c.on_two.ensures in
    let s = c.parting.ensures in record
    { text = w.text; is = two (rw c.in-Some.is at s).1 w.is; wrote = w.wrote }
