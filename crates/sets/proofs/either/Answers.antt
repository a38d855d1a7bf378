-- `either` meets its contract.
use mathlib.Core.Path.{sym, ap}
use mathlib.Core.Bool.{Bool, ◌||◌}
use mathlib.Core.Logic.{inl, inr}
use Rattle.sets.proofs.Basics.{clash}
use Rattle.sets.proofs.either.Goals as goal

pub returns-then-a : goal.returns-then-a
returns-then-a c = let b = c.args.b in
    record {
      or = sym (ap (λ (x : Bool). x || b) c.if-a.true);
      is = λ e. inl c.if-a.true;
      isnt = λ e. absurd (clash cc);
    }

pub returns : goal.returns
returns c = let b = c.args.b in
    record {
      or = sym (ap (λ (x : Bool). x || b) c.if-a.false);
      is = λ e. inr e;
      isnt = λ e. (c.if-a.false, e);
    }
