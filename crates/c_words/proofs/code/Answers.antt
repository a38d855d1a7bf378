-- `code` meets its contract: in each arm the answer is known.
use mathlib.Core.Path.{refl}
use native.Mathlib.Omega.{arith}
use Rattle.sheets.proofs.Numbers.{number_small}
use Rattle.c_words.proofs.code.Goals as goal

pub overflow_add-result : goal.overflow_add-result
overflow_add-result c =
    let h = number_small c.in-Refused.f in
    omega (arith, h, c.from.ensures)

pub returns-in-None : goal.returns-in-None
returns-in-None c = record { value = rw c.in-None.is refl; upper_bound = omega arith }

pub returns-in-One : goal.returns-in-One
returns-in-One c = record { value = rw c.in-One.is refl; upper_bound = omega arith }

pub returns-in-Two : goal.returns-in-Two
returns-in-Two c = record { value = rw c.in-Two.is refl; upper_bound = omega arith }

pub returns-in-Clear : goal.returns-in-Clear
returns-in-Clear c = record { value = rw c.in-Clear.is refl; upper_bound = omega arith }

pub returns-in-Given : goal.returns-in-Given
returns-in-Given c = record { value = rw c.in-Given.is refl; upper_bound = omega arith }

pub returns-in-Refused : goal.returns-in-Refused
returns-in-Refused c =
    let h = number_small c.in-Refused.f in
    record {
      value = rw (c.in-Refused.is, c.from.ensures) refl;
      upper_bound =
          omega (arith, h, c.from.ensures);
    }
