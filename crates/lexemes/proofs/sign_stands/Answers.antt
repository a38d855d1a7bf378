-- `sign_stands` meets its contract.
use mathlib.Core.Path.{◌≡◌}
use native.Mathlib.Omega.{arith}
use Rattle.lexemes.specs.Lexemes.{signs}
use Rattle.lexemes.proofs.sign_stands.Goals as goal

pub returns-in-0 : goal.returns-in-0
unfolding signs
returns-in-0 c = rw c.in-0.is c.stands.ensures

pub returns-in-1 : goal.returns-in-1
unfolding signs
returns-in-1 c = rw c.in-1.is c.stands-in-1.ensures

pub returns-in-2 : goal.returns-in-2
unfolding signs
returns-in-2 c = rw c.in-2.is c.stands-in-2.ensures

pub returns-in-3 : goal.returns-in-3
unfolding signs
returns-in-3 c = rw c.in-3.is c.stands-in-3.ensures

pub returns-in-4 : goal.returns-in-4
unfolding signs
returns-in-4 c = rw c.in-4.is c.stands-in-4.ensures

pub returns-in-5 : goal.returns-in-5
unfolding signs
returns-in-5 c = rw c.in-5.is c.stands-in-5.ensures

pub returns-in-6 : goal.returns-in-6
unfolding signs
returns-in-6 c = rw c.in-6.is c.stands-in-6.ensures

pub returns-in-7 : goal.returns-in-7
unfolding signs
returns-in-7 c = rw c.in-7.is c.stands-in-7.ensures

pub returns-in-8 : goal.returns-in-8
unfolding signs
returns-in-8 c = rw c.in-8.is c.stands-in-8.ensures

pub returns-in-9 : goal.returns-in-9
unfolding signs
returns-in-9 c = rw c.in-9.is c.stands-in-9.ensures

pub returns-in-10 : goal.returns-in-10
unfolding signs
returns-in-10 c = rw c.in-10.is c.stands-in-10.ensures

pub returns-in-11 : goal.returns-in-11
unfolding signs
returns-in-11 c = rw c.in-11.is c.stands-in-11.ensures

pub returns-in-12 : goal.returns-in-12
unfolding signs
returns-in-12 c = rw c.in-12.is c.stands-in-12.ensures

pub returns-in_default : goal.returns-in_default
unfolding signs
returns-in_default c =
    let e : c.args.i ≡ 13 = omega arith in
    rw e c.stands-in_default.ensures
