use mathlib.Core.Path.{◌≡◌}
use Prim.Native.Nat.{◌+◌, ◌-◌, ◌≤◌, ◌<◌}
use native.Mathlib.Omega.{arith}
use Rattle.sheets.proofs.Loop.{line_in}
use Rattle.sheets.proofs.Walks.{walk_high, walk_more, walk_end}
use Rattle.sheets.proofs.line_after.Goals as goal

pub overflow_add-at : goal.overflow_add-at
overflow_add-at c =
    let m : 0 < c.args.n - c.loop.counter = omega (arith, c.loop-test.true) in
    omega (arith, walk_high c.loop.invariant c.line-at.ensures m)

pub loop-preserved : goal.loop-preserved
loop-preserved c =
    let n = c.args.n in
    let i = c.loop.counter in
    let m : 0 < n - i = omega (arith, c.loop-test.true) in
    let e : n - (i + 1) ≡ n - i - 1 = omega arith in
    rw e (walk_more c.loop.invariant c.line-at.ensures m)

pub bytes-requires : goal.bytes-requires
bytes-requires c = line_in _ _ c.loop.invariant.low _ c.line.ensures

pub returns : goal.returns
returns c =
    let z : c.args.n - c.loop.counter ≤ 0 = omega (arith, c.loop-test.false) in
    walk_end c.loop.invariant c.line.ensures z c.bytes.ensures
