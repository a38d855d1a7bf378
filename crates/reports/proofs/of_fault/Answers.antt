-- `reports::of_fault` meets its contract: the numbers of refusals are four runs.
use native.Mathlib.Omega.{arith}
use Rattle.sets.proofs.Says.{holds, fails}
use Rattle.reports.proofs.Faults.{fault_one, fault_two, fault_three, fault_four, outside}
use Rattle.reports.proofs.of_fault.Goals as goal

pub returns-in-1-to-7 : goal.returns-in-1-to-7
returns-in-1-to-7 c = holds (fault_one c.args.n (omega arith) (omega arith))

pub returns-in-1-to-7-2 : goal.returns-in-1-to-7-2
returns-in-1-to-7-2 c =
    holds (fault_two c.args.n (omega arith) (omega arith))

pub returns-in-1-to-7-3 : goal.returns-in-1-to-7-3
returns-in-1-to-7-3 c = holds (fault_three c.args.n
    (omega arith) (omega arith))

pub returns-in-1-to-7-4 : goal.returns-in-1-to-7-4
returns-in-1-to-7-4 c = holds (fault_four
    c.args.n (omega arith)
    (omega arith))

pub returns-in_default : goal.returns-in_default
returns-in_default c =
    fails (outside c.args.n
    (record {
      one = λ h k. omega arith;
      two = λ h k. omega arith;
      three =
          λ h k. omega arith;
      four = λ h k. omega arith;
    }))

pub returns-in_default-2 : goal.returns-in_default-2
returns-in_default-2 c =
    fails (outside c.args.n
    (record {
      one = λ h k. omega arith;
      two = λ h k. omega arith;
      three =
          λ h k. omega arith;
      four = λ h k. omega arith;
    }))

pub returns-in_default-3 : goal.returns-in_default-3
returns-in_default-3 c =
    fails (outside c.args.n
    (record {
      one = λ h k. omega arith;
      two = λ h k. omega arith;
      three =
          λ h k. omega arith;
      four = λ h k. omega arith;
    }))

pub returns-in_default-4 : goal.returns-in_default-4
returns-in_default-4 c =
    fails (outside c.args.n
    (record {
      one = λ h k. omega arith;
      two = λ h k. omega arith;
      three =
          λ h k. omega arith;
      four = λ h k. omega arith;
    }))

pub returns-in_default-5 : goal.returns-in_default-5
returns-in_default-5 c =
    fails (outside c.args.n
    (record {
      one = λ h k. omega arith;
      two = λ h k. omega arith;
      three =
          λ h k. omega arith;
      four = λ h k. omega arith;
    }))
