-- `clause_of` meets its contract, kind by kind.
use mathlib.Core.Path.{sym}
use Prim.Native.Nat.{◌≤◌}
use native.Mathlib.Omega.{arith}
use lib.ListN.{get_or-eq_default}
use Rattle.rule_words.specs.Words.{clauses, clause_of_of}
use Rattle.rule_words.proofs.clause_of.Goals as goal

pub returns-in-0 : goal.returns-in-0
unfolding clause_of_of
returns-in-0 c = rw c.in-0.is

pub returns-in-1 : goal.returns-in-1
unfolding clause_of_of
returns-in-1 c = rw c.in-1.is

pub returns-in-2 : goal.returns-in-2
unfolding clause_of_of
returns-in-2 c = rw c.in-2.is

pub returns-in-3 : goal.returns-in-3
unfolding clause_of_of
returns-in-3 c = rw c.in-3.is

pub returns-in-4 : goal.returns-in-4
unfolding clause_of_of
returns-in-4 c = rw c.in-4.is

pub returns-in-5 : goal.returns-in-5
unfolding clause_of_of
returns-in-5 c = rw c.in-5.is

pub returns-in-6 : goal.returns-in-6
unfolding clause_of_of
returns-in-6 c = rw c.in-6.is

pub returns-in-7 : goal.returns-in-7
unfolding clause_of_of
returns-in-7 c = rw c.in-7.is

pub returns-in_default : goal.returns-in_default
unfolding clause_of_of
returns-in_default c =
    let h : 8 ≤ c.args.kind = omega arith in
    sym (get_or-eq_default (clauses _ _) _ h)
