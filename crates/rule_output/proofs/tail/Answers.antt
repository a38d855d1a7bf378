-- `tail` meets its contract.
use mathlib.Core.Path.{ap}
use native.Mathlib.Omega.{arith}
use Rattle.rule_output.proofs.Leaves.{tail_by, tail_none, bare_none}
use Rattle.rule_output.specs.Signs.{heads_of}
use Rattle.rule_output.specs.Emitting.{held}
use Rattle.lexemes.specs.declared.Lexeme.{Lexeme}
use Rattle.rule_output.proofs.tail.Goals as goal

pub plus-requires : goal.plus-requires
plus-requires c = let z = ap heads_of c.in-Plus.is in
    omega (arith, c.requires)

pub star-requires : goal.star-requires
star-requires c = let z = ap heads_of c.in-Star.is in
    omega (arith, c.requires)

pub returns-in-Maybe : goal.returns-in-Maybe
returns-in-Maybe c = tail_by _ _ _ _ _ _ c.in-Maybe.is c.optional.ensures

pub returns-in-Plus : goal.returns-in-Plus
returns-in-Plus c = tail_by _ _ _ _ _ _ c.in-Plus.is c.plus.ensures

pub returns-in-Star : goal.returns-in-Star
returns-in-Star c = tail_by _ _ _ _ _ _ c.in-Star.is c.star.ensures

pub returns-in-Marked : goal.returns-in-Marked
returns-in-Marked c = tail_by _ (Lexeme.Marked c.in-Marked.m) _ _ _ _
    c.in-Marked.is c.push.ensures

pub returns-in_default : goal.returns-in_default
returns-in_default c =
    let a = c.args in
    let d = c.in_default in
    tail_none a.l (held a.rules.now a.out) a.n a.b ((bare_none a.l (record {
      maybe = d.not-Maybe;
      plus = d.not-Plus;
      star = d.not-Star;
      marked = d.not-Marked;
    })).1 a.n a.b)
