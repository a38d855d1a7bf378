-- The least member of those that are not done.
use borrow.Author.Rules.{rules}
use Prim.Native.Nat.{◌<◌, ◌^◌}
use native.Mathlib.Omega.{arith}
use Rattle.cuts.proofs.PutLaws.{least_member}
use lib.Bits.{bit_and, bit_xor, and_le_l}
use Rattle.contained_spans.proofs.JoinLaws.{in_less, none_less}
use Rattle.contained_spans.proofs.fresh.Goals as goal

pub returns-then-rest-eq0 : goal.returns-then-rest-eq0
returns-then-rest-eq0 c = λ a h. none_less _ _ c.if-rest-eq0.true a

pub overflow_cast-result : goal.overflow_cast-result
overflow_cast-result c = let a = c.args in
    let pos : 0 < bit_and a.set (bit_xor a.set a.done) = omega (arith, c.if-rest-eq0.false) in
    omega (
      arith,
      (least_member (bit_and a.set (bit_xor a.set a.done)) pos
          (let fits : a.set < 2 ^ 64 = search rules in
          omega (arith, and_le_l a.set (bit_xor a.set a.done), fits))).small,
    )

pub returns : goal.returns
returns c = let a = c.args in
    let pos : 0 < bit_and a.set (bit_xor a.set a.done) = omega (arith, c.if-rest-eq0.false) in
    let x = least_member (bit_and a.set (bit_xor a.set a.done)) pos
    (let fits : a.set < 2 ^ 64 = search rules in
    omega (arith, and_le_l a.set (bit_xor a.set a.done), fits)) in let y =
    (in_less a.set a.done _).0 x.member in (x.small, y.0, y.1)
