-- `calls_text` meets its contract, case by case.
use mathlib.Core.Path.{refl}
use Rattle.calling.specs.Calls.{whole, called}
use borrow.Author.Rules.{rules}
use Rattle.calling.proofs.calls_text.Goals as goal

pub answer_at-requires : goal.answer_at-requires
answer_at-requires c =
    let s = c.parting.ensures in
    record { i_in_bounds = (rw c.in-Some.is at s).0; in_bounds = search rules }

pub returns-in-None : goal.returns-in-None
returns-in-None c =
    let s = c.parting.ensures in
    record {
      text = _;
      is = whole (search rules) (rw c.in-None.is at s) refl;
      wrote =
          c.put_refusal-in-None.ensures;
    }

pub returns-in-Some : goal.returns-in-Some
returns-in-Some c =
    let a = c.answer_at.ensures in
    let s = c.parting.ensures in
    record {
      text = a.text;
      is =
          called (search rules) (rw c.in-Some.is at s).1 a.is;
      wrote = a.wrote;
    }
