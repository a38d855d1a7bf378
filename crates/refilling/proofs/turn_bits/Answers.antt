use native.Mathlib.Omega.{arith}
use Prim.Native.Nat.{◌+◌, ◌*◌, ◌%◌, ◌^◌}
use lib.Bits.{bit_xor}
use lib.ListN.{get_or}
use Rattle.refilling.proofs.TurnLaws.{flip_shl, turning_more, turning_done}
use Rattle.refilling.proofs.turn_bits.Goals as goal

pub loop-a-preserved : goal.loop-a-preserved
loop-a-preserved c =
    let l = c.loop-a in
    let o = c.in-Some.ensures.steps.0 in
    let a = c.args in
    let w = get_or l.words (a.p + 2 * c.in-Some.a) 0 in
    rw c.in-Some.ensures.steps.1 (turning_more (bit_xor w ((1 * 2 ^ a.c) % 2 ^ 64)) o
    (omega (arith, o.small, l.invariant.size, c.requires.1))
    (flip_shl w a.c c.requires.0) l.invariant)

pub shape_of-words : goal.shape_of-words
shape_of-words c = c.loop-a.invariant.size

pub returns : goal.returns
returns c = turning_done c.in-None.ensures.steps.0 c.loop-a.invariant
