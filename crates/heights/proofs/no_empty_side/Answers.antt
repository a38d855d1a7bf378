-- Only a binary clause is idle, by two numbers of the empty word.
use native.Mathlib.Omega.{arith}
use mathlib.Core.Path.{sym}
use Rattle.sets.proofs.Says.{true_not_false}
use Rattle.heights.proofs.FallLaws.{no_empty_side_by}
use Rattle.heights.proofs.no_empty_side.Goals as goal

pub bounds-hs-x : goal.bounds-hs-x
bounds-hs-x c = (let s = rw c.in-Binary.is at
    c.requires.1 in
    omega (
      arith,
      s.0,
      c.wide-x.ensures,
      c.requires.0,
    ))

pub returns-then-hs-x-lt65535 : goal.returns-then-hs-x-lt65535
returns-then-hs-x-lt65535 c = λ e. absurd (true_not_false (sym e))

pub bounds-hs-y : goal.bounds-hs-y
bounds-hs-y c = (let s = rw
    c.in-Binary.is at
    c.requires.1 in
    omega (
      arith,
      s.1,
      c.wide-y.ensures,
      c.requires.0,
    ))

pub returns-in-Empty : goal.returns-in-Empty
returns-in-Empty c = λ e. absurd (true_not_false (sym e))

pub returns-in-Atom : goal.returns-in-Atom
returns-in-Atom c = λ e. absurd (true_not_false (sym e))

pub returns-in-Unary : goal.returns-in-Unary
returns-in-Unary c = λ e. absurd (true_not_false (sym e))

pub returns-then-hs-y-lt65535 : goal.returns-then-hs-y-lt65535
returns-then-hs-y-lt65535 c = λ e. absurd (true_not_false (sym e))

pub returns-else-hs-y-lt65535 : goal.returns-else-hs-y-lt65535
returns-else-hs-y-lt65535 c = λ e.
    let l = c.args.hs.now in
    let s = rw c.in-Binary.is at
    c.requires.1 in
    rw c.in-Binary.is
    (no_empty_side_by l _ _ _ _ _ _ c.requires.0
    (λ i. omega (arith, c.type_inv.hs i))
    c.wide-x.ensures
    c.wide-y.ensures s.0 s.1
    (omega (arith, c.if-hs-x-lt65535.false)) (omega (arith, c.if-hs-y-lt65535.false)))
