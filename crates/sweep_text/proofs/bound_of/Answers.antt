-- `sweep_text::bound_of` meets its contract: each test settles a case of the definition.
use mathlib.Core.Path.{◌≡◌, refl, sym, ◌∙◌}
use mathlib.Core.Bool.{Bool, true, false, not}
use lib.Seq.{length-take-le}
use Rattle.sweep_text.proofs.Bounds.{bound_short, bound_names, bound_open, bound_there}
use borrow.Author.Rules.{rules}
use Rattle.sweep_text.proofs.bound_of.Goals as goal

pub returns-then-n-lt7 : goal.returns-then-n-lt7
returns-then-n-lt7 c = bound_short c.args.s.now c.if-n-lt7.true

pub slice_bounds-ne-end : goal.slice_bounds-ne-end
slice_bounds-ne-end c =
    sym (length-take-le 6 c.args.s.now (search rules))

-- whether the line is `bound`, by the test that it is not
not_bound : (b : Bool) {r : Bool} → r ≡ not b → r ≡ true → b ≡ false
not_bound true e f = sym f ∙ e
not_bound false e f = refl

is_bound : (b : Bool) {r : Bool} → r ≡ not b → r ≡ false → b ≡ true
is_bound true e f = refl
is_bound false e f = sym f ∙ e

pub returns-then-ne : goal.returns-then-ne
returns-then-ne c =
    bound_names c.args.s.now (search rules)
    (not_bound _ (rw c.as_slice.ensures at c.ne.ensures) c.if-ne.true)

pub returns-then-s-end-ne10 : goal.returns-then-s-end-ne10
returns-then-s-end-ne10 c =
    bound_open c.args.s.now
    (search rules) (is_bound _ (rw c.as_slice.ensures at c.ne.ensures) c.if-ne.false)
    c.if-s-end-ne10.true

pub returns : goal.returns
returns c =
    c.numeral.ensures ∙ bound_there
    c.args.s.now (search rules)
    (is_bound _ (rw c.as_slice.ensures at c.ne.ensures) c.if-ne.false)
    c.if-s-end-ne10.false
