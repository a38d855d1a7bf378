-- `sweep_text::sweep_text` meets its contract, case by case.
use mathlib.Core.Path.{refl}
use Rattle.sweep_text.specs.Sweep.{long, whole}
use Rattle.sweep_text.proofs.Sweeps.{swept_printed}
use borrow.Author.Rules.{rules}
use Rattle.sweep_text.proofs.sweep_text.Goals as goal

pub returns-then-input-gt16384 : goal.returns-then-input-gt16384
returns-then-input-gt16384 c =
    record { text = _; is = long (search rules) refl; wrote = c.put_refusal.ensures }

pub sweep_at-requires : goal.sweep_at-requires
sweep_at-requires c =
    let s = c.parting.ensures in
    record { i_in_bounds = (rw c.in-Some.is at s).0; in_bounds = search rules }

pub returns-in-None : goal.returns-in-None
returns-in-None c =
    let s = c.parting.ensures in
    record {
      text = _;
      is = whole (search rules) (rw c.in-None.is at s) refl;
      wrote = c.put_refusal-in-None.ensures;
    }

pub returns-in-Some : goal.returns-in-Some
returns-in-Some c =
    let s = c.parting.ensures in
    swept_printed (search rules) (rw c.in-Some.is at s).1 c.sweep_at.ensures
