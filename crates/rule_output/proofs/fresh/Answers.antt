-- `fresh` meets its contract.
use mathlib.Core.Path.{refl, sym}
use mathlib.Core.Logic.{inl, inr}
use mathlib.Core.List.{append-nil}
use native.Mathlib.Omega.{arith}
use Rattle.rule_output.proofs.Adding.{adds_over}
use Rattle.rule_output.proofs.fresh.Goals as goal

pub returns-then-out-lt64 : goal.returns-then-out-lt64
returns-then-out-lt64 c w =
    record {
      why = λ z. inl z;
      count = λ z. omega arith;
      room = λ z. z;
      long = λ z. refl;
      rules = λ z h. sym (append-nil _);
      next = λ z. refl;
      low = λ z h. omega arith;
      few = λ z h. h;
    }

pub returns : goal.returns
returns c w = adds_over refl (inr (inl (omega arith)))
